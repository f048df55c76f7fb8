-- A member that the loop comes to is the highest, and one that is passed is none.
use Prim.Native.Nat.{◌-◌}
use mathlib.Core.Path.{◌∙◌}
use native.Mathlib.Omega.{arith}
use borrow.Author.Rules.{rules}
use borrow.Author.Tests.{lt-ltb, eq-eqb, ne_eqb}
use Rattle.laws.proofs.Searches.{last_here, last_lower, last_end}
use Rattle.sets.proofs.highest.Goals as goal

pub returns-then-set-t-eq1 : goal.returns-then-set-t-eq1
returns-then-set-t-eq1 c = rw (
  c.loop-t.invariant.1 ∙ last_here _ _ _ c.loop-t-test.true (eq-eqb _ _ c.if-set-t-eq1.true),
  lt-ltb (c.loop-t.t - 1) 16 (omega arith),
)

pub loop-t-preserved : goal.loop-t-preserved
loop-t-preserved c = (
  search rules,
  c.loop-t.invariant.1 ∙ last_lower _ _ _ c.loop-t-test.true (ne_eqb _ _ c.if-set-t-eq1.false),
)

pub returns : goal.returns
returns c = rw (c.loop-t.invariant.1 ∙ last_end _ _ _ c.loop-t-test.false)
