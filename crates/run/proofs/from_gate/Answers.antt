-- What the task did stands, and then the channel is empty.
use mathlib.Core.Path.{refl, sym, ◌∙◌}
use borrow.Author.Rules.{rules}
use Rattle.state.specs.States.{gate_of, down_of}
use Rattle.run.proofs.Steps.{received_answer, from_gate_is, emptied_gate}
use Rattle.run.proofs.from_gate.Goals as goal

pub returns-in_err-at_task : goal.returns-in_err-at_task
returns-in_err-at_task c =
    let a = c.args in
    let e = sym (received_answer a.rules.moves.now a.rules.masks.now a.rules.gates a.s.now a.log.now a.b.0 (down_of (gate_of a.s.now a.g.0) a.b.0)) ∙ sym c.at_task.ensures.answer ∙ c.in_err-at_task.was in
    rw (c.at_task.ensures.state, c.at_task.ensures.bytes, from_gate_is a.rules.moves.now a.rules.masks.now a.rules.gates a.s.now a.log.now a.g a.b, e)
    (record { answer = search rules; state = refl; bytes = refl })

pub returns : goal.returns
returns c =
    let a = c.args in
    let e = sym (received_answer a.rules.moves.now a.rules.masks.now a.rules.gates a.s.now a.log.now a.b.0 (down_of (gate_of a.s.now a.g.0) a.b.0)) ∙ sym c.at_task.ensures.answer ∙ c.in_ok-at_task.was in
    rw (c.at_task.ensures.state, c.at_task.ensures.bytes, from_gate_is a.rules.moves.now a.rules.masks.now a.rules.gates a.s.now a.log.now a.g a.b, e, c.empty.ensures)
    (record { answer = search rules; state = emptied_gate a.s.now a.g.0 a.b.0 _ _ _; bytes = refl })
