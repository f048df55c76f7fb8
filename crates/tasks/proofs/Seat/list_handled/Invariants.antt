-- What is left of the list still gives the answer, and each request adds at most one entry.
use Rattle.std.proofs.Common.{◌-◌, ◌≡◌, ◌≤◌}
use Rattle.tasks.specs.Tasks.{list_handled}
use Rattle.tasks.proofs.Seat.list_handled.Given as goal

abbrev pub invariant-loop : goal.invariant-loop
invariant-loop l =
    (l.w.fired ≤ l.counter)
    × (list_handled l.self.rules.moves.now l.self.rules.gates (l.self.number.0) l.self.rules.masks.now (l.count - l.counter) l.w ≡ list_handled l.self.rules.moves.now l.self.rules.gates (l.self.number.0) l.self.rules.masks.now l.count l.initial.w)
