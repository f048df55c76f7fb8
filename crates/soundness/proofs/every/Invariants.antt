-- The flag is the test of the numbers so far.
use Rattle.std.proofs.Common.{Bool, ℕ, ◌<◌, ◌≡◌}
use Rattle.laws.specs.Below.{all_below}
use Rattle.soundness.proofs.every.Given as goal

abbrev pub invariant-loop-i : goal.invariant-loop-i
invariant-loop-i g l =
    (P : ℕ → Bool) → ((i : ℕ) (r : Bool) → i < l.bound → goal.F-post g l.passes i r → r ≡ P i) → l.ok ≡ all_below l.i P
