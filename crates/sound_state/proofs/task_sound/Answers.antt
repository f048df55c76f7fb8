-- The channels are tested by what a task may send.
use Rattle.std.proofs.Common.{rules}
use Rattle.sound_state.specs.SoundState.{across_fits, task_sound}
use Rattle.sound_state.proofs.task_sound.Goals as goal

pub returns : goal.returns
unfolding task_sound
returns c =
    let a = c.args in
    let e = c.channels_sound-across.ensures (across_fits a.rules.vectors.now a.rules.masks.now a.rules.gates a.task.0) (search rules) in
    rw e (search rules)
