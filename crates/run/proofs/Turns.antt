-- A turn of a run: a delivery that is done goes on, and after one that is refused nothing changes.
use Rattle.std.specs.Prelude.{Ok, Err}
use Prim.Native.Nat.{ℕ, ◌+◌, ◌<◌}
use mathlib.Core.List.{List}
use mathlib.Core.Path.{◌≡◌, refl, ◌∙◌}
use native.Mathlib.Omega.{arith}
use Rattle.answers.specs.Answers.{Answer}
use Rattle.answers.specs.declared.Refusal.{Refusal}
use Rattle.delivery.specs.Delivery.{Outcome}
use Rattle.laws.proofs.Turning.{turn_more, turns_stay}
use Rattle.laws.specs.Turns.{up_to}
use Rattle.run.specs.Run.{Course, turn_at, course}
use Rattle.schedule.specs.Schedules.{delivery_of}
use Rattle.schedule.specs.declared.Delivery.{Delivery}
use Rattle.state.specs.declared.State.{State}

abbrev pub so_far : State → List ℕ → Answer → ℕ → Course
so_far s log answer made = record { state = s; log = log; answer = answer; made = made }

module _ (next : State → List ℕ → Delivery → Outcome) (file : List ℕ) (c₀ : Course) where
  abbrev pub turns : ℕ → Course
  turns i = up_to (turn_at next file) i c₀

  module _ (s : State) (log : List ℕ) (i : ℕ) (before : turns i ≡ so_far s log (Ok tt) i) where
    abbrev outcome : Outcome
    outcome = next s log (delivery_of file i)

    pub turn_done : outcome.answer ≡ Ok tt → turns (i + 1) ≡ so_far outcome.state outcome.log (Ok tt) (i + 1)
    turn_done e = turn_more (turn_at next file) i c₀ ∙ rw (before, e)

    pub ends_refused : (refusal : Refusal) → outcome.answer ≡ Err refusal → (count : ℕ) → i < count
        → course next file count c₀ ≡ so_far outcome.state outcome.log (Err refusal) i
    unfolding course
    ends_refused refusal e count l =
        turns_stay (turn_at next file) c₀ (so_far outcome.state outcome.log (Err refusal) i) (i + 1) count (λ (k : ℕ). refl)
        (turn_more (turn_at next file) i c₀ ∙ rw (before, e)) (omega arith)
