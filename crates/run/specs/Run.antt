-- "Otherwise it delivers until the first refusal".
use Rattle.std.specs.Prelude.{ℕ, ◌+◌, cond, List, Ok}
use Rattle.laws.specs.Turns.{up_to}
use Rattle.answers.specs.Answers.{is_done, Answer}
use Rattle.numbers.specs.Endpoints.{endpoint_of}
use Rattle.table.specs.declared.Table.{Table}
use Rattle.schedule.specs.Schedules.{delivery_of}
use Rattle.schedule.specs.declared.Delivery.{Delivery}
use Rattle.state.specs.declared.State.{State}
use Rattle.delivery.specs.Delivery.{Outcome, between, delivered}
use Rattle.run.specs.declared.Ran.{Ran}

-- what has come of the deliveries so far: the state, the log's bytes, the last answer, and how many were done
pub record Course : Type 0 where
  pub state : State
  pub log : List ℕ
  pub answer : Answer
  pub made : ℕ

abbrev pub course_begun : State → List ℕ → Course
course_begun s log = record { state = s; log = log; answer = Ok tt; made = 0 }

abbrev pub gone : Course → Outcome → Course
gone c o = record { state = o.state; log = o.log; answer = o.answer; made = cond (is_done o.answer) (c.made + 1) c.made }

-- The deliveries of a schedule file in turn, each made by next, until one is refused.
module _ (next : State → List ℕ → Delivery → Outcome) (file : List ℕ) where
  abbrev pub turn_at : ℕ → Course → Course
  turn_at i c = cond (is_done c.answer) (gone c (next c.state c.log (delivery_of file i))) c

  unfoldable pub course : ℕ → Course → Course
  course count c = up_to turn_at count c

abbrev pub ran_of : Course → Ran
ran_of c = record { state = c.state; answer = c.answer; made = c.made }

-- one delivery of a schedule, and the same where number 11 is not asked
abbrev pub delivered_by : Table → State → List ℕ → Delivery → Outcome
delivered_by T s log d = delivered T s log d.from d.to

module _ (moves vectors masks : List ℕ) (tasks gates : ℕ) where
  abbrev pub stepped_by : State → List ℕ → Delivery → Outcome
  stepped_by s log d =
      between moves masks gates s log vectors (endpoint_of tasks gates d.from) (endpoint_of tasks gates d.to)
