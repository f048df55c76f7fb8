-- A refused delivery leaves the state, and one that is done stores both parties.
use mathlib.Core.Path.{sym, ◌∙◌}
use borrow.Author.Rules.{rules}
use Rattle.run.proofs.Steps.{to_gate_is}
use Rattle.run.proofs.to_gate.Goals as goal

pub returns-in_err-answered : goal.returns-in_err-answered
returns-in_err-answered c =
    let a = c.args in
    let e = sym (rw (c.at_gate-work.ensures, c.at_gate.ensures.masks, c.at_gate.ensures.count, c.at_gate.ensures.gate) at c.answered.ensures)
    ∙ c.in_err-answered.was in
    rw (to_gate_is a.rules.vectors.now a.rules.masks.now a.s.now a.t a.g, e) (record { answer = search rules; state = search rules })

pub returns : goal.returns
returns c =
    let a = c.args in
    let e = sym (rw (c.at_gate-work.ensures, c.at_gate.ensures.masks, c.at_gate.ensures.count, c.at_gate.ensures.gate) at c.answered.ensures)
    ∙ c.in_ok-answered.was in
    rw (to_gate_is a.rules.vectors.now a.rules.masks.now a.s.now a.t a.g, e) (record {
      answer = search rules;
      state = rw (c.popped.ensures, c.at_gate-work.ensures, c.at_gate.ensures.masks, c.at_gate.ensures.count, c.at_gate.ensures.gate);
    })
