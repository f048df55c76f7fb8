-- Turns on a value.
use Rattle.std.specs.Prelude.{ℕ, suc, zero}

-- f 0, then f 1, .. then f (n - 1)
abbrev pub up_to : {A : Type 0} → (ℕ → A → A) → ℕ → A → A
up_to f zero a = a
up_to f (suc n) a = f n (up_to f n a)
