-- Announcing changes only what the task has sent to the gates.
use mathlib.Core.Path.{sym, ap}
use Rattle.state.specs.States.{at_state}
use Rattle.tasks.specs.Tasks.{begun}
use Rattle.tasks.specs.declared.Work.{Work}
use Rattle.tasks.proofs.Apart.{announced_apart}
use Rattle.fresh.proofs.started_task.Goals as goal

pub returns : goal.returns
returns c =
    let a = c.args in
    rw (c.with_all_up.ensures, c.at_state.ensures, c.announced-after.ensures)
    (sym (ap (λ (w : Work). w.task) (announced_apart a.seat.rules.moves.now a.seat.rules.gates a.seat.number.0 (begun (at_state a.task a.start)))))
