-- A number more joins the test of those before it.
use Rattle.std.proofs.Common.{sym}
use Rattle.laws.proofs.Numbers.{below_none, below_turn}
use Rattle.soundness.proofs.every.Goals as goal

pub loop-i-init : goal.loop-i-init
loop-i-init g c P h = sym (below_none P)

pub loop-i-preserved : goal.loop-i-preserved
loop-i-preserved g c P h =
    below_turn c.loop-i.i P c.passes-ok.result c.loop-i.ok
    (h c.loop-i.i c.passes-ok.result c.loop-i-test.true c.passes-ok.ensures)
    (c.loop-i.invariant P h)
