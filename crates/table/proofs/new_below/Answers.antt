-- None of the vectors so far is the mask.
use mathlib.Core.Path.{◌≡◌, sym}
use native.Mathlib.Omega.{arith}
use borrow.Author.Rules.{rules}
use borrow.Author.Tests.{eq-eqb, ne_eqb}
use Rattle.laws.proofs.Numbers.{below_none, below_more, below_fails}
use Rattle.table.specs.Tables.{new_below}
use Rattle.table.proofs.new_below.Invariants.{unlike}
use Rattle.table.proofs.new_below.Goals as goal

pub loop-v-init : goal.loop-v-init
loop-v-init c = (search rules, below_none _)

pub returns-then-mask_at-mask : goal.returns-then-mask_at-mask
unfolding new_below
returns-then-mask_at-mask c =
    let a = c.args in
    sym (below_fails a.count (unlike a.masks.now a.gate.0 a.mask) c.loop-v.v (search rules)
    (rw (← c.mask_at.ensures, eq-eqb _ _ c.if-mask_at-mask.true)))

pub loop-v-preserved : goal.loop-v-preserved
loop-v-preserved c =
    let a = c.args in (
      search rules,
      below_more _ (unlike a.masks.now a.gate.0 a.mask) c.loop-v.invariant.1
          (rw (← c.mask_at.ensures, ne_eqb _ _ c.if-mask_at-mask.false)),
    )

pub returns : goal.returns
unfolding new_below
returns c =
    let e : c.loop-v.v ≡ c.args.count = omega arith in
    sym (rw e at c.loop-v.invariant.1)
