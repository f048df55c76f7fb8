-- `read` meets its contract: the loop is the walk, come to a place with what was read before it (`Come`).
use Rattle.std.proofs.Common.{length, ◌-◌}
use Rattle.reader.proofs.Come.{Come}
use Rattle.reader.proofs.read.Given as goal

abbrev pub invariant-loop-at : goal.invariant-loop-at
invariant-loop-at l = Come l.file l.at l.loading

abbrev pub decreases-loop-at : goal.decreases-loop-at
decreases-loop-at l = length l.file - l.at
