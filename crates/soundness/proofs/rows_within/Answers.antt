-- The rows, by the limits of their gates, are the moves of the task.
use mathlib.Core.Path.{◌∙◌}
use borrow.Author.Rules.{rules}
use Rattle.soundness.proofs.Rows.{rows_fit}
use Rattle.soundness.proofs.rows_within.Goals as goal

pub returns : goal.returns
returns c =
    c.every.ensures _ (search rules)
    ∙ rows_fit c.args.table.now c.args.t c.limits-limits.result c.limits-limits.ensures
