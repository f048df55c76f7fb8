-- A mask of 16 bits has no member from 16 on.
use mathlib.Core.Path.{sym}
use borrow.Author.Rules.{rules}
use Rattle.sets.proofs.Members.{no_member}
use Rattle.sets.proofs.member.Goals as goal

pub returns-else-t-lt16 : goal.returns-else-t-lt16
returns-else-t-lt16 c = sym (no_member 16 c.args.set c.args.task.0 (search rules) c.if-t-lt16.false)
