-- Each kind of link, and none.
use mathlib.Core.Path.{refl}
use Rattle.delivery.specs.Delivery.{between}
use Rattle.run.proofs.step.Goals as goal

pub returns-in_default : goal.returns-in_default
unfolding between
returns-in_default c =
    rw (← c.resolve-from.ensures, ← c.resolve-to.ensures, ← c.way_between.ensures, c.in_default.is)
    (record { answer = refl; state = refl; bytes = refl })

pub returns-in-ToGate : goal.returns-in-ToGate
unfolding between
returns-in-ToGate c =
    rw (← c.resolve-from.ensures, ← c.resolve-to.ensures, ← c.way_between.ensures, c.in-Some.is, c.in-ToGate.is)
    (record { answer = c.to_gate.ensures.answer; state = c.to_gate.ensures.state; bytes = refl })

pub returns-in-FromGate : goal.returns-in-FromGate
unfolding between
returns-in-FromGate c =
    rw (← c.resolve-from.ensures, ← c.resolve-to.ensures, ← c.way_between.ensures, c.in-Some.is, c.in-FromGate.is)
    (record { answer = c.from_gate.ensures.answer; state = c.from_gate.ensures.state; bytes = c.from_gate.ensures.bytes })

pub returns-in-ToTask : goal.returns-in-ToTask
unfolding between
returns-in-ToTask c =
    rw (← c.resolve-from.ensures, ← c.resolve-to.ensures, ← c.way_between.ensures, c.in-Some.is, c.in-ToTask.is)
    (record { answer = c.to_task.ensures.answer; state = c.to_task.ensures.state; bytes = c.to_task.ensures.bytes })
