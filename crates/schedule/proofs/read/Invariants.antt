-- `read` meets its contract: the loop is the walk, come to a place after a count of records (`Come`).
use Rattle.std.proofs.Common.{length, ◌-◌, ◌≤◌}
use Rattle.schedule.proofs.Come.{Come}
use Rattle.schedule.proofs.read.Given as goal

abbrev pub invariant-loop-at : goal.invariant-loop-at
invariant-loop-at l = (l.count ≤ l.at) × Come l.file l.at l.count

abbrev pub decreases-loop-at : goal.decreases-loop-at
decreases-loop-at l = length l.file - l.at
