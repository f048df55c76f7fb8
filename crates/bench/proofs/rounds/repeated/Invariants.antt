-- Before each turn all is as the rounds before it left it.
use Rattle.std.proofs.Common.{◌≡◌}
use Rattle.laws.specs.Turns.{up_to}
use Rattle.run.specs.Run.{course_begun, ran_of}
use Rattle.state.specs.States.{empty_state}
use Rattle.bench.specs.Rounds.{turn_of}
use Rattle.bench.proofs.rounds.repeated.Given as goal

abbrev pub invariant-loop : goal.invariant-loop
invariant-loop l =
    (l.ran ≡ ran_of (up_to (turn_of l.mode l.table l.schedule l.count) l.counter (course_begun empty_state l.initial.log)))
    × (l.log ≡ (up_to (turn_of l.mode l.table l.schedule l.count) l.counter (course_begun empty_state l.initial.log)).log)
