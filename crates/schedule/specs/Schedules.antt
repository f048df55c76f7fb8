-- What comes back for a schedule file.
use Rattle.std.specs.Prelude.{ℕ, ◌+◌, ◌*◌, ◌/◌, cond, List, eqb, ltb, length, Ok, Err}
use Rattle.answers.specs.Answers.{Answer}
use Rattle.answers.specs.declared.Refusal.TheVariants.{Kind, TooMany}
use Rattle.format.specs.Format.{byte_at, kind_at, head_fault}
use Rattle.format.specs.Walk.{walk}
use Rattle.schedule.specs.declared.Schedule.{Schedule}
use Rattle.schedule.specs.declared.Delivery.{Delivery}

-- "each record checked as 1, 2, 3, 1": only kind 5 stands in a schedule
unfoldable pub fault_at : List ℕ → ℕ → Answer
fault_at file at = head_fault file at (cond (eqb (kind_at file at) 5) (Ok tt) (Err Kind))

abbrev pub refused_of : Answer → ℕ → Schedule
refused_of answer place = record { answer = answer; place = place; count = 0 }

abbrev pub ended_of : ℕ → ℕ → Schedule
ended_of n count = record { answer = Ok tt; place = n; count = count }

-- "a longer file than 60,000 bytes is 7 at 60000 before its records are looked at .. first fault named"
unfoldable pub schedule_of : List ℕ → Schedule
schedule_of file =
    cond (ltb 60000 (length file)) (refused_of (Err TooMany) 60000)
    (walk file (λ (at n : ℕ). fault_at file at) (λ (at n : ℕ). n + 1) refused_of (ended_of (length file)) (length file) 0 0)

-- delivery i of an accepted file: "from, to", behind the head of the record at 6 * i
unfoldable pub delivery_of : List ℕ → ℕ → Delivery
delivery_of file i =
    cond (ltb i (length file / 6))
    (record { from = byte_at file (i * 6 + 4); to = byte_at file (i * 6 + 4 + 1) })
    (record { from = 0; to = 0 })
