-- The cases that the paper wants proved of the definitions, P1 to P10, as one list.
use Rattle.std.specs.Prelude.{ℕ, suc, zero, Bool, true, false, List, [], ◌∷◌, ◌++◌, map, ◌≡◌, take}
use Rattle.answers.specs.Answers.{number_of}
use Rattle.delivery.specs.Delivery.{Outcome}
use Rattle.line.specs.Runs.{line_begun, run_from}
use Rattle.line.specs.Answered.{answers}
use Rattle.quiet.specs.Quiet.{quiet}
use Rattle.reader.specs.Reader.{read_of}
use Rattle.table.specs.Tables.{empty_table}
use Rattle.schedule.specs.declared.Delivery.{Delivery}
use Rattle.state.specs.States.{task_of}
use Rattle.state.specs.declared.State.{State}
use Rattle.table.specs.declared.Table.{Table}
use Rattle.cases.specs.TableE.{table_e, with_last_mask, without_third_task, pair, schedule}

-- what is handed in: a table file; or a table file to start a line with, a log, and the deliveries to make
pub data Given : Type 0 where
  file : List ℕ → Given
  line : List ℕ → List ℕ → List Delivery → Given

-- what comes back: for a table file the number, the place and the table; for a line the number of each delivery, and
-- after the last the log, each task's state and whether nothing is undelivered
pub data Back : Type 0 where
  read : ℕ → ℕ → Table → Back
  ran : List ℕ → List ℕ → List ℕ → Bool → Back

abbrev pub task_states : ℕ → State → List ℕ
task_states zero s = []
task_states (suc n) s = task_states n s ++ ((task_of s n).state ∷ [])

abbrev pub seen : Table → List ℕ → Outcome → Back
seen T numbers o = ran numbers o.log (task_states T.tasks o.state) (quiet o.state)

abbrev pub answered : Given → Back
answered (file s) = read (number_of (read_of s).answer) (read_of s).place (read_of s).table
answered (line s log ds) =
    seen (read_of s).table (map number_of (answers (read_of s).table (line_begun (read_of s).table log) ds))
    (run_from (read_of s).table log ds)

-- what is handed in, and what must come back
pub record Case : Type 0 where
  pub given : Given
  pub back : Back

-- "empty table, place"
abbrev pub refused : List ℕ → ℕ → ℕ → Case
refused s number place = record { given = file s; back = read number place empty_table }

abbrev pub ran_e : List ℕ → List Delivery → List ℕ → List ℕ → List ℕ → Bool → Case
ran_e log ds numbers after states quiet = record { given = line table_e log ds; back = ran numbers after states quiet }

unfoldable pub cases : List Case
cases =
    -- P1 the run: "answer 0 delivered 13 log 1 quiet yes", "fire gate 1 vector 0 tasks 6", "state 0 1 0"
    ran_e (9 ∷ 9 ∷ 9 ∷ 9 ∷ []) schedule (0 ∷ 0 ∷ 0 ∷ 0 ∷ 0 ∷ 0 ∷ 0 ∷ 0 ∷ 0 ∷ 0 ∷ 0 ∷ 0 ∷ 0 ∷ []) (1 ∷ 0 ∷ 9 ∷ 9 ∷ []) (0 ∷ 1 ∷ 0 ∷ []) true
    -- P2 E with a log of length 1: delivery 8 gives 10
    ∷ ran_e (9 ∷ []) (take 8 schedule) (0 ∷ 0 ∷ 0 ∷ 0 ∷ 0 ∷ 0 ∷ 0 ∷ 10 ∷ []) (9 ∷ []) (0 ∷ 0 ∷ 0 ∷ []) false
    -- P3 E fresh, 16-0 gives 9; P4 16-17 gives 8; P5 3-16 gives 8
    ∷ ran_e [] (pair 16 0 ∷ []) (9 ∷ []) [] (0 ∷ 0 ∷ 0 ∷ []) false
    ∷ ran_e [] (pair 16 17 ∷ []) (8 ∷ []) [] (0 ∷ 0 ∷ 0 ∷ []) false
    ∷ ran_e [] (pair 3 16 ∷ []) (8 ∷ []) [] (0 ∷ 0 ∷ 0 ∷ []) false
    -- P6 empty file: 6 at 0
    ∷ refused [] 6 0
    -- P7 three bytes: 1 at 0
    ∷ refused (2 ∷ 0 ∷ 1 ∷ []) 1 0
    -- P8 E with its last mask 0: 4 at 66
    ∷ refused (with_last_mask 0) 4 66
    -- P9 E with that mask 8: 4 at 66
    ∷ refused (with_last_mask 8) 4 66
    -- P10 E without its third task record: 6 at 20
    ∷ refused without_third_task 6 20
    ∷ []

-- every case gives what must come back
abbrev pub AllHold : List Case → Type 0
AllHold l = map (λ (c : Case). answered c.given) l ≡ map (λ (c : Case). c.back) l
