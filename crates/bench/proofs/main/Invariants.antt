-- Each line has a byte at least.
use Rattle.std.proofs.Common.{length}
use Rattle.bench.proofs.main.Given as goal

abbrev pub decreases-loop-line : goal.decreases-loop-line
decreases-loop-line l = length l.rest
