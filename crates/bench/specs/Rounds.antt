-- The rounds of a measurement, each from a fresh line on, and with the log as the one before left it.
use Rattle.std.specs.Prelude.{ℕ, cond, List, eqb}
use Rattle.laws.specs.Turns.{up_to}
use Rattle.fresh.specs.Fresh.{fresh}
use Rattle.run.specs.Run.{Course, course_begun, course, delivered_by, stepped_by}
use Rattle.state.specs.States.{empty_state}
use Rattle.table.specs.declared.Table.{Table}
use Rattle.bench.specs.declared.rounds.Mode.{Mode}
use Rattle.bench.specs.declared.rounds.Mode.TheVariants.{Idle, Unchecked, Checked}

-- mode 1 does not ask number 11, mode 2 does, and any other makes no delivery
abbrev pub mode_of : ℕ → Mode
mode_of number = cond (eqb number 1) Unchecked (cond (eqb number 2) Checked Idle)

module _ (T : Table) (file : List ℕ) (count : ℕ) where
  abbrev pub course_of : Mode → Course → Course
  course_of Idle c = c
  course_of Unchecked c = course (stepped_by T.moves T.vectors T.masks T.tasks T.gates) file count c
  course_of Checked c = course (delivered_by T) file count c

module _ (mode : Mode) (T : Table) (file : List ℕ) (count : ℕ) where
  unfoldable pub round_of : List ℕ → Course
  round_of log = course_of T file count mode (course_begun (fresh T).state log)

  abbrev pub turn_of : ℕ → Course → Course
  turn_of i c = round_of c.log

  unfoldable pub rounds_of : ℕ → List ℕ → Course
  rounds_of rounds log = up_to turn_of rounds (course_begun empty_state log)
