-- A vector whose tasks are all in the offers is the first, and one that is passed is not.
use mathlib.Core.Path.{◌∙◌}
use borrow.Author.Tests.{lt-ltb, le-ltb}
use Rattle.laws.proofs.Searches.{first_here, first_further, first_end}
use Rattle.gates.proofs.fitting.Goals as goal

pub returns-then-subset : goal.returns-then-subset
returns-then-subset c =
    let e = c.loop-v.invariant
    ∙ first_here _ _ _ c.loop-v-test.true
    (rw (← c.mask.ensures, ← c.subset.ensures) c.if-subset.true) in
    rw (e, lt-ltb _ _ c.loop-v-test.true)

pub loop-v-preserved : goal.loop-v-preserved
loop-v-preserved c =
    c.loop-v.invariant
    ∙ first_further _ _ _ c.loop-v-test.true
    (rw (← c.mask.ensures, ← c.subset.ensures) c.if-subset.false)

pub returns : goal.returns
returns c = rw (c.loop-v.invariant ∙ first_end _ _ _ c.loop-v-test.false, le-ltb _ _ c.loop-v-test.false)
