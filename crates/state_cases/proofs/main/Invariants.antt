-- Each case has a byte at least.
use Rattle.std.proofs.Common.{length}
use Rattle.state_cases.proofs.main.Given as goal

abbrev pub decreases-loop-case : goal.decreases-loop-case
decreases-loop-case l = length l.rest
