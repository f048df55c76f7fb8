-- The state is as after the tasks so far.
use Rattle.std.proofs.Common.{◌≡◌, ◌≤◌}
use Rattle.fresh.specs.Fresh.{started_at}
use Rattle.laws.specs.Turns.{up_to}
use Rattle.state.specs.States.{empty_state}
use Rattle.fresh.proofs.fresh.Given as goal

abbrev pub invariant-loop-t : goal.invariant-loop-t
invariant-loop-t l = (l.t ≤ l.table.tasks) × (l.table.tasks ≤ 16) × (l.state ≡ up_to (started_at l.table) l.t empty_state)
