-- A record more, a refused record, and the end: the laws of the walk.
use mathlib.Core.Path.{◌∙◌, ap, sym}
use borrow.Author.Rules.{rules}
use Rattle.answers.specs.Answers.{is_done}
use Rattle.reader.specs.Reader.{refused_of}
use Rattle.reader.proofs.Come.{come_first, come_more, come_refused, come_ended}
use Rattle.reader.proofs.read.Goals as goal

pub loop-at-init : goal.loop-at-init
loop-at-init c = rw c.begun-loading.ensures (come_first _)

pub returns-in-Err : goal.returns-in-Err
returns-in-Err c =
    let w = c.loop-at in
    let e = sym c.fault_at.ensures ∙ c.in-Err.is in
    c.refused.ensures ∙ ap (λ a. refused_of a w.at) (sym e) ∙ come_refused _ w.invariant (search rules) (ap is_done e)

pub loop-at-preserved : goal.loop-at-preserved
loop-at-preserved c =
    let w = c.loop-at in
    rw (c.with_next-loading.ensures, c.record_at.ensures, c.size_at-at.ensures)
    (come_more _ w.invariant (search rules) (ap is_done (sym c.fault_at.ensures ∙ c.in_default.is)))

pub returns : goal.returns
returns c = c.ended.ensures ∙ come_ended _ c.loop-at.invariant (search rules)
