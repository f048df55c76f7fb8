-- The flag is the test of the places so far.
use Rattle.std.proofs.Common.{Bool, ℕ, ◌≡◌}
use Rattle.laws.specs.Below.{all_below}
use Rattle.sound_state.specs.Parts.{TestsBy}
use Rattle.sound_state.proofs.every.Given as goal

abbrev pub invariant-loop-i : goal.invariant-loop-i
invariant-loop-i g l =
    goal.F-IsAlwaysCallable g l.passes
    × ((P : ℕ → Bool) → TestsBy (goal.F-post g l.passes) l.places P → l.ok ≡ all_below l.i P)
