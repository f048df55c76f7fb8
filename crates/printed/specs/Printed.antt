-- "The loom step worked through": what program desk prints for the bytes of its two files.
use Rattle.std.specs.Prelude.{ℕ, cond, List}
use Rattle.answers.specs.Answers.{number_of, is_done}
use Rattle.fresh.specs.Fresh.{fresh}
use Rattle.quiet.specs.Quiet.{quiet}
use Rattle.reader.specs.Reader.{read_of}
use Rattle.reader.specs.declared.Loaded.{Loaded}
use Rattle.report.specs.Report.{refusal, report}
use Rattle.run.specs.Run.{Course, course_begun, course, delivered_by}
use Rattle.schedule.specs.Schedules.{schedule_of}
use Rattle.schedule.specs.declared.Schedule.{Schedule}
use Rattle.table.specs.declared.Table.{Table}

-- the text, and the log's bytes then
pub record Page : Type 0 where
  pub text : List ℕ
  pub log : List ℕ

-- "A refused file prints `answer N at P`."
abbrev pub refused : ℕ → ℕ → List ℕ → Page
refused number place log = record { text = refusal number place; log = log }

-- "three kinds of line"
abbrev pub of_course : Table → Course → Page
of_course T c = record {
  text = report T.masks T.tasks (number_of c.answer) c.made (quiet c.state) c.state c.log;
  log = c.log;
}

-- "Otherwise it delivers until the first refusal"
abbrev pub of_schedule : Table → List ℕ → List ℕ → Schedule → Page
of_schedule T file log listed =
    cond (is_done listed.answer)
    (of_course T (course (delivered_by T) file listed.count (course_begun (fresh T).state log)))
    (refused (number_of listed.answer) listed.place log)

-- "The table is read first, and where it is refused the schedule isn't looked at."
abbrev pub of_table : List ℕ → List ℕ → Loaded → Page
of_table file log loaded =
    cond (is_done loaded.answer) (of_schedule loaded.table file log (schedule_of file))
    (refused (number_of loaded.answer) loaded.place log)

unfoldable pub printed : List ℕ → List ℕ → List ℕ → Page
printed table schedule log = of_table schedule log (read_of table)
