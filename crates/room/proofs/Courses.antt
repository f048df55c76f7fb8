-- What holds along the deliveries of a schedule, from Fresh on.
use Prim.Native.Nat.{ℕ}
use mathlib.Core.Bool.{true}
use mathlib.Core.List.{List}
use mathlib.Core.Path.{◌≡◌, refl, ◌∙◌}
use native.Mathlib.Omega.{arith}
use lib.ListN.{length}
use Rattle.laws.proofs.Tests.{either}
use Rattle.answers.specs.Answers.{is_done}
use Rattle.laws.proofs.Turning.{turns_keep}
use Rattle.table.specs.declared.Table.{Table}
use Rattle.soundness.specs.Sound.{sound_table}
use Rattle.schedule.specs.Schedules.{delivery_of}
use Rattle.schedule.specs.declared.Delivery.{Delivery}
use Rattle.delivery.specs.Delivery.{sound_for}
use Rattle.fresh.specs.Fresh.{fresh_state, fresh}
use Rattle.kept.proofs.Entries.{LogInRange, outcome_ranged}
use Rattle.kept.proofs.Fresh.{fresh_logged, fresh_sized, fresh_all_sound}
use Rattle.kept.proofs.Kept.{outcome_sound, outcome_sized}
use Rattle.kept.proofs.Log.{outcome_long}
use Rattle.kept.proofs.States.{SizedState}
use Rattle.run.specs.Run.{Course, course_begun, gone, turn_at, course, delivered_by}

module _ (T : Table) (log : List ℕ) where
  pub record Good (c : Course) : Type 0 where
    pub is_sound : sound_for T c.state (length c.log) ≡ true
    pub is_sized : SizedState c.state
    pub is_long : length c.log ≡ length log
    pub in_range : LogInRange c.state.logged c.log

  module _ (room : length T.vectors ≡ 16) where
    gone_good : (c : Course) (d : Delivery) → Good c → Good (gone c (delivered_by T c.state c.log d))
    gone_good c d h = record {
      is_sound = outcome_sound T c.state c.log d.from d.to room h.is_sized h.is_sound;
      is_sized = outcome_sized T c.state c.log d.from d.to room h.is_sized;
      is_long = outcome_long T c.state c.log d.from d.to ∙ h.is_long;
      in_range = outcome_ranged T room c.state c.log h.is_sized h.in_range d.from d.to;
    }

    pub course_good : sound_table T ≡ true → (file : List ℕ) (count : ℕ)
        → Good (course (delivered_by T) file count (course_begun (fresh T).state log))
    unfolding course fresh
    course_good h file count = rw h (turns_keep Good (turn_at (delivered_by T) file) count (course_begun (fresh_state T) log)
        (λ i c below g. either Good (is_done c.answer) (gone c (delivered_by T c.state c.log (delivery_of file i))) c
        (gone_good c (delivery_of file i) g) g)
        (record {
          is_sound = fresh_all_sound T h log;
          is_sized = fresh_sized T h;
          is_long = refl;
          in_range = λ k l. absurd (omega (arith, fresh_logged T h));
        }))
