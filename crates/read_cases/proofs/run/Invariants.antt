-- Each case has a byte at least, so there are no more cases than bytes passed.
use Rattle.std.proofs.Common.{length, ◌+◌, ◌≤◌}
use Rattle.read_cases.proofs.run.Given as goal

abbrev pub invariant-loop-case : goal.invariant-loop-case
invariant-loop-case g l = l.cases + length l.rest ≤ length l.input

abbrev pub decreases-loop-case : goal.decreases-loop-case
decreases-loop-case g l = length l.rest
