-- How long `joined` is.
use Prim.Native.Nat.{ℕ, suc, zero, ◌*◌, ◌<◌, ◌≤◌}
use mathlib.Core.List.{List}
use native.Mathlib.Nat.{suc-mul, add-le-add}
use native.Mathlib.Omega.{arith}
use lib.ListN.{length, length-append}
use Rattle.text.specs.Text.{joined}

pub joined_short : (f : ℕ → List ℕ) (b n : ℕ) → ((i : ℕ) → i < n → length (f i) ≤ b) → length (joined f n) ≤ n * b
unfolding joined
joined_short f b zero h = omega arith
joined_short f b (suc n) h =
    simp (length-append, suc-mul) (add-le-add (joined_short f b n (λ i l. h i (omega arith))) (h n (omega arith)))
