-- Tests over the numbers below a bound.
use Rattle.std.specs.Prelude.{ℕ, suc, zero, Bool, true, cond, ◌&&◌}

-- P holds of every number below n
unfoldable pub all_below : ℕ → (ℕ → Bool) → Bool
all_below zero P = true
all_below (suc n) P = P n && all_below n P

-- the first number from i on, among the next n, of which P holds; i + n where there is none
unfoldable pub first_from : ℕ → ℕ → (ℕ → Bool) → ℕ
first_from i zero P = i
first_from i (suc n) P = cond (P i) i (first_from (suc i) n P)
