-- The task is as after the lower tasks so far; from 16 on there is no member.
use Rattle.std.proofs.Common.{◌≡◌, ◌≤◌}
use Rattle.laws.specs.Turns.{up_to}
use Rattle.state.specs.States.{with_all_across}
use Rattle.tasks.specs.Tasks.{with, sent_at}
use Rattle.tasks.proofs.sent_below.Given as goal

abbrev pub invariant-loop-y : goal.invariant-loop-y
invariant-loop-y l = (l.y ≤ l.y-end) × (with l.w (with_all_across l.task l.across) l.ok ≡ up_to (sent_at l.mask l.message) l.y l.w)
