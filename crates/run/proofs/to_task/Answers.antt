-- What the task did stands, and then the channel is empty, which is another task's.
use mathlib.Core.Path.{refl, sym, ◌∙◌}
use borrow.Author.Rules.{rules}
use Rattle.state.specs.States.{task_of, across_of}
use Rattle.run.proofs.Steps.{received_answer, to_task_is, emptied_after}
use Rattle.run.proofs.to_task.Goals as goal

pub returns-in_err-at_task : goal.returns-in_err-at_task
returns-in_err-at_task c =
    let a = c.args in
    let e = sym (received_answer a.rules.moves.now a.rules.masks.now a.rules.gates a.s.now a.log.now a.b.0 (across_of (task_of a.s.now a.a.0) a.b.0)) ∙ sym c.at_task.ensures.answer ∙ c.in_err-at_task.was in
    rw (c.at_task.ensures.state, c.at_task.ensures.bytes, to_task_is a.rules.moves.now a.rules.masks.now a.rules.gates a.s.now a.log.now a.a a.b, e)
    (record { answer = search rules; state = refl; bytes = refl })

pub returns : goal.returns
returns c =
    let a = c.args in
    let e = sym (received_answer a.rules.moves.now a.rules.masks.now a.rules.gates a.s.now a.log.now a.b.0 (across_of (task_of a.s.now a.a.0) a.b.0)) ∙ sym c.at_task.ensures.answer ∙ c.in_ok-at_task.was in
    rw (c.at_task.ensures.state, c.at_task.ensures.bytes, to_task_is a.rules.moves.now a.rules.masks.now a.rules.gates a.s.now a.log.now a.a a.b, e, c.empty.ensures)
    (record { answer = search rules; state = emptied_after a.s.now a.a.0 a.b.0 _ _ c.requires.apart; bytes = refl })
