-- A test of every element of a list with its place, in one pass, so that it computes for a long list too.
use Rattle.std.specs.Prelude.{ℕ, suc, Bool, true, ◌&&◌, List, [], ◌∷◌}

-- P i holds of the first element, P (i + 1) of the next, and so on
unfoldable pub all_from : (ℕ → ℕ → Bool) → ℕ → List ℕ → Bool
all_from P i [] = true
all_from P i (x ∷ xs) = P i x && all_from P (suc i) xs
