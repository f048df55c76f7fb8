-- The last number that passes a test. The interface does not speak of it.
use Rattle.std.specs.Prelude.{ℕ, suc, zero, Bool, cond}

-- the last number below n of which P holds; none where there is none
unfoldable pub last_below : ℕ → (ℕ → Bool) → ℕ → ℕ
last_below zero P none = none
last_below (suc n) P none = cond (P n) n (last_below n P none)
