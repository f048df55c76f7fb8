-- A place more joins the test of those before it.
use Rattle.std.proofs.Common.{rules, sym}
use Rattle.laws.proofs.Numbers.{below_none, below_turn}
use Rattle.sound_state.proofs.every.Goals as goal

pub loop-i-init : goal.loop-i-init
loop-i-init g c = (search rules, λ P h. sym (below_none P))

pub loop-i-preserved : goal.loop-i-preserved
loop-i-preserved g c = (
  search rules,
  λ P h.
      below_turn c.loop-i.i P c.passes-ok.result c.loop-i.ok
      (h c.loop-i.i c.index-places-i.result c.passes-ok.result c.loop-i-test.true c.index-places-i.is
      (rw c.index-places-i.is c.passes-ok.ensures))
      (c.loop-i.invariant.1 P h),
)
