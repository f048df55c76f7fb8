-- The entries of work that is done have found room.
use mathlib.Core.Path.{sym, ap, ◌∙◌}
use borrow.Author.Tests.{ltb-false}
use Rattle.answers.specs.Answers.{is_done}
use Rattle.run.proofs.Steps.{answered_room}
use Rattle.run.proofs.at_task.Goals as goal

pub counted-s-requires : goal.counted-s-requires
counted-s-requires c =
    ltb-false _ _ (sym c.is_full-full.ensures ∙ answered_room _ _ _ (ap is_done (sym c.answered.ensures ∙ c.in_ok-answered.was)))
