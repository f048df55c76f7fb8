-- A list turned to the left by one place, with another element for the last.
use Prim.Native.Nat.{ℕ, ◌+◌}
use mathlib.Core.List.{List, [], ◌∷◌, ◌++◌}
use mathlib.Core.Path.{◌≡◌}
use native.Mathlib.Omega.{arith}
use lib.ListN.{length, set, take, drop}
use lib.Seq.{set_at}

pub last_replaced : {A : Type 0} (l : List A) (n : ℕ) (a : A) → length l ≡ n + 1 → set (drop 1 l ++ take 1 l) n a ≡ drop 1 l ++ (a ∷ [])
last_replaced [] n a h = absurd (omega arith)
last_replaced (x ∷ xs) n a h = set_at xs x [] a n (omega arith)
