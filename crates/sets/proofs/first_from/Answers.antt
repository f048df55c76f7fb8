-- A member that the loop comes to is the first, and one that is passed is not.
use mathlib.Core.Path.{◌∙◌}
use borrow.Author.Rules.{rules}
use borrow.Author.Tests.{lt-ltb, le-ltb, eq-eqb, ne_eqb}
use Rattle.laws.proofs.Searches.{first_here, first_further, first_end}
use Rattle.sets.proofs.first_from.Goals as goal

pub returns-then-set-t-eq1 : goal.returns-then-set-t-eq1
returns-then-set-t-eq1 c = rw (
  c.loop-t.invariant.1 ∙ first_here _ _ _ c.loop-t-test.true (eq-eqb _ _ c.if-set-t-eq1.true),
  lt-ltb _ _ c.loop-t-test.true,
)

pub loop-t-preserved : goal.loop-t-preserved
loop-t-preserved c = (
  search rules,
  c.loop-t.invariant.1 ∙ first_further _ _ _ c.loop-t-test.true (ne_eqb _ _ c.if-set-t-eq1.false),
)

pub returns : goal.returns
returns c = rw (c.loop-t.invariant.1 ∙ first_end _ _ _ c.loop-t-test.false, le-ltb _ _ c.loop-t-test.false)
