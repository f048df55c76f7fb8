-- A sound table has at most 16 tasks.
use mathlib.Core.Bool.{true}
use mathlib.Core.Path.{◌≡◌, sym, ◌∙◌}
use borrow.Author.Rules.{rules}
use Rattle.soundness.proofs.Rules.{sound_rules}
use Rattle.soundness.specs.Sound.{sound_table}
use Rattle.fresh.proofs.fresh.Goals as goal

pub loop-t-init : goal.loop-t-init
loop-t-init c =
    let h : sound_table c.args.table ≡ true = sym c.sound.ensures ∙ c.if-not-sound.false in
    (search rules, (sound_rules c.args.table h).tasks, c.empty-state.ensures)
