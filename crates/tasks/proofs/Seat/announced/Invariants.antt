-- What the task has sent is as after the gates so far.
use Rattle.std.proofs.Common.{◌≡◌, ◌≤◌}
use Rattle.laws.specs.Turns.{up_to}
use Rattle.tasks.specs.Parts.{announced_up_at}
use Rattle.tasks.specs.declared.Outgoing.{Outgoing}
use Rattle.tasks.proofs.Seat.announced.Given as goal

abbrev pub invariant-loop-g : goal.invariant-loop-g
invariant-loop-g l =
    let now : Outgoing = record { up = l.up; ok = l.ok } in
    (l.g ≤ l.self.rules.gates)
    × (now ≡ up_to (announced_up_at l.self.rules.moves.now l.self.number.0 l.state) l.g (record { up = l.initial.up; ok = l.initial.ok }))
