-- The state and the log are as after the turns so far, all of them done.
use Rattle.std.proofs.Common.{◌≡◌, Ok}
use Rattle.run.proofs.Turns.{turns, so_far}
use Rattle.run.specs.Run.{course_begun, stepped_by}
use Rattle.run.proofs.run.Given as goal

abbrev pub invariant-loop-i : goal.invariant-loop-i
invariant-loop-i l = turns (stepped_by l.rules.moves.now l.rules.vectors.now l.rules.masks.now l.rules.tasks l.rules.gates) l.file (course_begun l.initial.s l.initial.log) l.i ≡ so_far l.s l.log (Ok tt) l.i
