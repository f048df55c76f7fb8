-- Moving adds no entry.
use Rattle.tasks.specs.Tasks.{begun}
use Rattle.tasks.proofs.Fired.{moved_fired}
use Rattle.tasks.proofs.Seat.committed.Goals as goal

pub list_handled-requires : goal.list_handled-requires
list_handled-requires c =
    let a = c.args in
    rw (
      c.moved_to.ensures,
      c.begun.ensures,
    ) (moved_fired a.self.rules.moves.now a.self.rules.gates a.self.number.0 c.move_at-to.result (begun a.task))
