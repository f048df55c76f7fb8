-- The tasks and the gates are tested by their rules.
use mathlib.Core.Bool.{Bool, ◌&&◌}
use mathlib.Core.Path.{◌≡◌}
use native.Mathlib.Omega.{arith}
use Rattle.std.proofs.lemmas.Grind.{common_steps}
use Rattle.sound_state.specs.SoundState.{sound_state}
use Rattle.sound_state.proofs.sound.Goals as goal

both : (a b c d : Bool) → a ≡ c → b ≡ d → (a && b) ≡ (c && d)
both a b c d p q = rw (p, q)

pub returns : goal.returns
unfolding sound_state
returns c =
    both _ _ _ _
    (c.every-tasks.ensures _ (grind (arith, common_steps)))
    (c.every.ensures _ (grind (arith, common_steps)))
