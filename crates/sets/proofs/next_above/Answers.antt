-- There is none above a task from 16 on.
use mathlib.Core.Path.{sym}
use native.Mathlib.Omega.{arith}
use Rattle.sets.proofs.Ends.{next_none}
use Rattle.sets.proofs.next_above.Goals as goal

pub returns-else-t-lt16 : goal.returns-else-t-lt16
returns-else-t-lt16 c = sym (next_none c.args.set c.args.task.0 (λ k l m. absurd (omega arith)))
