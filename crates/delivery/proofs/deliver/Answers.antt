-- The parties of a way were resolved and lie within 16, and what is sound has counted no more than the log holds.
use mathlib.Core.Path.{sym, ◌∙◌, subst}
use lib.ListN.{length}
use Rattle.delivery.specs.Delivery.{way_of}
use Rattle.delivery.specs.Within.{WayWithin}
use Rattle.numbers.proofs.Resolved.{InRange, in_range}
use Rattle.delivery.proofs.Counted.{count_fits}
use Rattle.delivery.proofs.Ways.{way_within, end_within}
use Rattle.delivery.proofs.deliver.Goals as goal

pub along-requires : goal.along-requires
along-requires c =
    let a = c.args in
    let n = a.table.tasks in
    let m = a.table.gates in
    let x = c.resolve-a in
    let y = c.resolve-b in
    let known : WayWithin 16 16 (way_of x.result y.result) =
    way_within 16 16 x.result y.result
    (end_within x.result (subst InRange (sym x.ensures) (in_range n m a.from)))
    (end_within y.result (subst InRange (sym y.ensures) (in_range n m a.to))) in (
      subst (WayWithin 16 16) (sym c.in-Some.ensures) known,
      count_fits a.table a.s (length a.log.now) (sym c.is_sound.ensures ∙ c.if-not-is_sound.false),
    )
