-- In a row of deliveries number 11 need be asked only once, before the first.
use Prim.Native.Nat.{ℕ}
use mathlib.Core.Bool.{true}
use mathlib.Core.List.{List}
use mathlib.Core.Path.{◌≡◌}
use lib.ListN.{length}
use Rattle.laws.proofs.Tests.{either}
use Rattle.answers.specs.Answers.{is_done}
use Rattle.delivery.specs.Delivery.{sound_for, delivered}
use Rattle.kept.proofs.Kept.{outcome_sound, outcome_sized}
use Rattle.kept.proofs.States.{SizedState}
use Rattle.laws.proofs.Turning.{turns_same}
use Rattle.run.specs.Run.{Course, course_begun, gone, turn_at, course, delivered_by, stepped_by}
use Rattle.schedule.specs.Schedules.{delivery_of}
use Rattle.schedule.specs.declared.Delivery.{Delivery}
use Rattle.state.specs.declared.State.{State}
use Rattle.table.specs.declared.Table.{Table}

module _ (T : Table) (room : length T.vectors ≡ 16) where
  -- what the deliveries keep
  record Good (c : Course) : Type 0 where
    is_sound : sound_for T c.state (length c.log) ≡ true
    is_sized : SizedState c.state

  turn_good : (file : List ℕ) (i : ℕ) (c : Course) → Good c → Good (turn_at (delivered_by T) file i c)
  turn_good file i c h =
      let d : Delivery = delivery_of file i in
      either Good (is_done c.answer) (gone c (delivered_by T c.state c.log d)) c
      (record {
        is_sound = outcome_sound T c.state c.log d.from d.to room h.is_sized h.is_sound;
        is_sized = outcome_sized T c.state c.log d.from d.to room h.is_sized;
      }) h

  turn_same : (file : List ℕ) (i : ℕ) (c : Course) → Good c
      → turn_at (delivered_by T) file i c ≡ turn_at (stepped_by T.moves T.vectors T.masks T.tasks T.gates) file i c
  unfolding delivered
  turn_same file i c h = rw h.is_sound

  pub same_course : (s : State) (log : List ℕ) → SizedState s → sound_for T s (length log) ≡ true → (file : List ℕ) (count : ℕ)
      → course (delivered_by T) file count (course_begun s log)
      ≡ course (stepped_by T.moves T.vectors T.masks T.tasks T.gates) file count (course_begun s log)
  unfolding course
  same_course s log z h file count =
      turns_same Good (turn_at (delivered_by T) file) (turn_at (stepped_by T.moves T.vectors T.masks T.tasks T.gates) file)
      count (course_begun s log) (turn_good file) (turn_same file) (record { is_sound = h; is_sized = z })
