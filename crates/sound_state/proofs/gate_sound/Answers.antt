-- The channels are tested by what a gate may send.
use Rattle.std.proofs.Common.{rules}
use Rattle.sound_state.specs.SoundState.{down_fits, gate_sound}
use Rattle.sound_state.proofs.gate_sound.Goals as goal

pub returns : goal.returns
unfolding gate_sound
returns c =
    let a = c.args in
    let e = c.channels_sound-down.ensures (down_fits a.rules.vectors.now a.rules.masks.now a.gate.0) (search rules) in
    rw e (search rules)
