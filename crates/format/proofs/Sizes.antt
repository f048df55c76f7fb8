-- No record is longer than eight bytes.
use Prim.Native.Nat.{ℕ, suc, zero, ◌≤◌}
use mathlib.Core.List.{List}
use native.Mathlib.Omega.{arith}
use Rattle.format.specs.Format.{body_length_of, kind_at, size_at}

body_le : (k : ℕ) → body_length_of k ≤ 4
body_le zero = omega arith
body_le (suc zero) = omega arith
body_le (suc (suc zero)) = omega arith
body_le (suc (suc (suc zero))) = omega arith
body_le (suc (suc (suc (suc zero)))) = omega arith
body_le (suc (suc (suc (suc (suc zero))))) = omega arith
body_le (suc (suc (suc (suc (suc (suc k)))))) = omega arith

pub size_le : (file : List ℕ) (at : ℕ) → size_at file at ≤ 8
size_le file at = omega (arith, body_le (kind_at file at))
