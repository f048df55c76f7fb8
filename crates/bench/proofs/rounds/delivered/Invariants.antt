-- Before turn i the state and the log are what the first i deliveries left, all of them done.
use Rattle.std.proofs.Common.{◌≡◌, Ok}
use Rattle.run.specs.Run.{course_begun, delivered_by}
use Rattle.run.proofs.Turns.{so_far, turns}
use Rattle.bench.proofs.rounds.delivered.Given as goal

abbrev pub invariant-loop-i : goal.invariant-loop-i
invariant-loop-i l =
    turns (delivered_by l.table) l.schedule (course_begun l.initial.s l.initial.log) l.i ≡ so_far l.s l.log (Ok tt) l.i
