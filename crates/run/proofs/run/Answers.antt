-- A delivery that is done goes on, and a refusal ends the run.
use mathlib.Core.Path.{◌≡◌, sym, ap, ◌∙◌}
use native.Mathlib.Omega.{arith}
use Rattle.run.specs.Run.{Course, course_begun, course, ran_of, stepped_by}
use Rattle.run.proofs.Turns.{turn_done, ends_refused}
use Rattle.run.proofs.run.Goals as goal

pub returns-in-Err : goal.returns-in-Err
returns-in-Err c =
    let a = c.args in
    let l = c.loop-i in
    let next = stepped_by a.rules.moves.now a.rules.vectors.now a.rules.masks.now a.rules.tasks a.rules.gates in
    let e = rw c.delivery_at.ensures at (sym c.step.ensures.answer ∙ c.in-Err.is) in
    let h = ends_refused next a.file.now (course_begun a.s a.log.now) l.s l.log l.i l.invariant _ e a.count c.loop-i-test.true in
    rw (c.step.ensures.state, c.step.ensures.bytes, c.delivery_at.ensures) (record {
      state = ap ran_of (sym h);
      bytes = ap (λ (x : Course). x.log) (sym h);
    })

pub loop-i-preserved : goal.loop-i-preserved
loop-i-preserved c =
    let a = c.args in
    let l = c.loop-i in
    let next = stepped_by a.rules.moves.now a.rules.vectors.now a.rules.masks.now a.rules.tasks a.rules.gates in
    let e = rw c.delivery_at.ensures at (sym c.step.ensures.answer ∙ c.in_default.is) in
    rw (c.step.ensures.state, c.step.ensures.bytes, c.delivery_at.ensures)
    (turn_done next a.file.now (course_begun a.s a.log.now) l.s l.log l.i l.invariant e)

pub returns : goal.returns
unfolding course
returns c =
    let e : c.loop-i.i ≡ c.args.count = omega arith in
    let h = rw e at c.loop-i.invariant in
    record { state = ap ran_of (sym h); bytes = ap (λ (x : Course). x.log) (sym h) }
