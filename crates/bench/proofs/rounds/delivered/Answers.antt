-- A delivery that is refused is the last one, and the course ends with it.
use Rattle.std.proofs.Common.{◌∙◌, sym, ap}
use Rattle.delivery.specs.declared.Delivered.{Delivered}
use Rattle.run.specs.Run.{Course, course_begun, delivered_by, ran_of}
use Rattle.run.proofs.Turns.{ends_refused}
use Rattle.bench.proofs.rounds.delivered.Goals as goal

pub returns-in-Err : goal.returns-in-Err
returns-in-Err c =
    let a = c.args in
    let l = c.loop-i in
    let e = sym (ap (λ (d : Delivered). d.answer) (rw c.delivery_at-d.ensures at c.deliver-r.ensures.state)) ∙ c.in-Err.is in
    let h = ends_refused (delivered_by a.table) a.schedule.now (course_begun a.s a.log.now) l.s l.log l.i l.invariant _ e a.count c.loop-i-test.true in
    rw (c.deliver-r.ensures.state, c.deliver-r.ensures.bytes, c.delivery_at-d.ensures) (record {
      state = ap ran_of (sym h);
      bytes = ap (λ (x : Course). x.log) (sym h);
    })
