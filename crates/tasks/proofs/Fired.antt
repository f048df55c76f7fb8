-- How many log entries work has: sends and announcements add none, and handling a request at most one.
use Rattle.std.specs.Prelude.{Option, Some, None}
use Prim.Native.Nat.{ℕ, suc, zero, ◌+◌, ◌≤◌}
use mathlib.Core.Bool.{Bool, true, false, cond, ◌&&◌, not}
use mathlib.Core.List.{List}
use mathlib.Core.Path.{◌≡◌, refl, ◌∙◌}
use native.Mathlib.Omega.{arith}
use Rattle.laws.proofs.Tests.{either}
use Rattle.laws.specs.Turns.{up_to}
use Rattle.sets.specs.Sets.{member_of, next_above_of}
use Rattle.numbers.specs.declared.TaskNo.{TaskNo}
use Rattle.table.specs.Tables.{move_of, ready_of, mask_of}
use Rattle.channels.specs.Channels.{ends_ready}
use Rattle.channels.specs.declared.Request.{Request}
use Rattle.channels.specs.declared.Message.{Message}
use Rattle.channels.specs.declared.Message.TheVariants.{Commit, Abort}
use Rattle.state.specs.States.{up_of}
use Rattle.tasks.specs.Tasks.{sent_across, entered, sent_at, sent_below, sent, announced_at, announced, moved_to, accepted, handled}
use Rattle.tasks.specs.declared.Work.{Work}

turns_fired : (f : ℕ → Work → Work) → ((n : ℕ) (w : Work) → (f n w).fired ≡ w.fired) → (n : ℕ) (w : Work) → (up_to f n w).fired ≡ w.fired
turns_fired f h zero w = refl
turns_fired f h (suc n) w = h n (up_to f n w) ∙ turns_fired f h n w

pub sent_fired : (b mask g : ℕ) (m : Message) (w : Work) → (sent b mask g m w).fired ≡ w.fired
unfolding sent_below
sent_fired b mask g m w =
    turns_fired (sent_at mask m) (λ (y : ℕ) (v : Work). either (λ (x : Work). x.fired ≡ v.fired) (member_of mask y) (sent_across v y m) v refl refl) b w

module _ (moves : List ℕ) (gates b : ℕ) where
  pub announced_fired : (w : Work) → (announced moves gates b w).fired ≡ w.fired
  unfolding announced
  announced_fired w =
      turns_fired (announced_at moves gates b w.task.state)
      (λ (g : ℕ) (v : Work). either (λ (x : Work). x.fired ≡ v.fired) (ready_of moves b w.task.state g && not (ends_ready (up_of v.task g))) _ v refl refl) gates w

  pub moved_fired : (to : Option ℕ) (w : Work) → (moved_to moves gates b to w).fired ≡ w.fired
  moved_fired None w = refl
  moved_fired (Some y) w = announced_fired _

  accepted_fired : (r : Request) (mask : ℕ) (above : Option TaskNo) (w : Work) → (accepted moves gates b r mask above w).fired ≤ w.fired + 1
  accepted_fired r mask (Some c) w = omega arith
  accepted_fired r mask None w =
      let v : Work = sent b mask r.gate.0 (Commit r.gate) (entered w r) in
      let e : v.fired ≡ w.fired + 1 = sent_fired b mask r.gate.0 (Commit r.gate) (entered w r) in
      omega (arith, moved_fired (move_of moves b w.task.state r.gate.0) v, e)

  pub handled_fired : (masks : List ℕ) (r : Request) (w : Work) → (handled moves gates b masks r w).fired ≤ w.fired + 1
  unfolding handled
  handled_fired masks r w = turn (ready_of moves b w.task.state r.gate.0)
    where
      mask : ℕ
      mask = mask_of masks r.gate.0 r.vector

      turn : (t : Bool) → (cond t (accepted moves gates b r mask (next_above_of mask b) w) (sent b mask r.gate.0 (Abort r.gate) w)).fired ≤ w.fired + 1
      turn true = accepted_fired r mask (next_above_of mask b) w
      turn false = omega (arith, sent_fired b mask r.gate.0 (Abort r.gate) w)
