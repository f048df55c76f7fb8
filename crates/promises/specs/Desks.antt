-- Desks in general, and the wrong ones that the paper names under "What must be shown of the promises".
use Rattle.std.specs.Prelude.{ℕ, false, List, [], ◌∷◌, ◌≡◌, Some}
use Rattle.answers.specs.Answers.{is_done, Answer}
use Rattle.numbers.specs.Endpoints.{endpoint_of}
use Rattle.table.specs.declared.Table.{Table}
use Rattle.schedule.specs.declared.Delivery.{Delivery}
use Rattle.state.specs.States.{task_of, pop_of}
use Rattle.state.specs.declared.Link.{Link}
use Rattle.state.specs.declared.State.{State}
use Rattle.delivery.specs.Delivery.{Outcome, given_back, way_of}
use Rattle.line.specs.Runs.{line_begun, run_from}
use Rattle.promises.specs.Interface.{Delivers}

-- what comes of a table, a state, a log and a delivery's two endpoints
abbrev pub Desk : Type 0
Desk = Table → State → List ℕ → ℕ → ℕ → Outcome

module _ (desk : Desk) where
  -- it keeps the promise of a delivery, whatever it is given
  abbrev pub Keeps : Type 0
  Keeps = (T : Table) (s : State) (log : List ℕ) (from to : ℕ)
      → Delivers T s log from to (given_back (desk T s log from to)) (desk T s log from to).log

  -- a line that is started fresh, and its deliveries made by this desk
  unfoldable pub gone_on : Table → Outcome → List Delivery → Outcome
  gone_on T o [] = o
  gone_on T o (d ∷ deliveries) = gone_on T (desk T o.state o.log d.from d.to) deliveries

  abbrev pub line_by : Table → List ℕ → List Delivery → Outcome
  line_by T log deliveries = gone_on T (line_begun T log) deliveries

  -- "a desk that refuses all deliveries"
  abbrev pub RefusesAll : Type 0
  RefusesAll = (T : Table) (s : State) (log : List ℕ) (from to : ℕ) → is_done (desk T s log from to).answer ≡ false

  -- "one with a single fixed answer"
  abbrev pub AnswersAlike : Type 0
  AnswersAlike = (a : Answer) × ((T : Table) (s : State) (log : List ℕ) (from to : ℕ) → (desk T s log from to).answer ≡ a)

  -- "one that passes messages but never moves a task"
  abbrev pub NeverMoves : Type 0
  NeverMoves = (T : Table) (s : State) (log : List ℕ) (from to t : ℕ)
      → (task_of (desk T s log from to).state t).state ≡ (task_of s t).state

  -- "one that delivers the first message properly and only pops the rest": already the second of a line is only popped
  abbrev pub PopsTheRest : Type 0
  PopsTheRest = (T : Table) (log : List ℕ) (first next : Delivery) (link : Link)
      → way_of (endpoint_of T.tasks T.gates next.from) (endpoint_of T.tasks T.gates next.to) ≡ Some link
      → (desk T (run_from T log (first ∷ [])).state (run_from T log (first ∷ [])).log next.from next.to).state
      ≡ (pop_of (run_from T log (first ∷ [])).state link).after

  -- "A log count not backed by entries": the count may rise, and no byte is ever written
  abbrev pub WritesNothing : Type 0
  WritesNothing = (T : Table) (s : State) (log : List ℕ) (from to : ℕ) → (desk T s log from to).log ≡ log
