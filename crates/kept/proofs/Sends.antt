-- What a present task sends keeps its rules: a message that fits, results to lower tasks and the gate, announcements.
use Rattle.std.specs.Prelude.{Option, Some, None}
use Prim.Native.Nat.{ℕ, ◌<◌}
use mathlib.Core.Bool.{Bool, true, ◌&&◌, not}
use mathlib.Core.Path.{◌≡◌, refl, sym, ◌∙◌, subst}
use native.Mathlib.Omega.{arith}
use lib.Dec.{ltb}
use lib.ListN.{get_or, length-set}
use borrow.Author.Tests.{lt-ltb}
use Rattle.laws.proofs.Stores.{store_at}
use Rattle.std.proofs.lemmas.Bool.{and_from}
use Rattle.laws.proofs.Tests.{either}
use Rattle.laws.proofs.Turning.{turns_keep}
use Rattle.sets.specs.Sets.{member_of}
use Rattle.table.specs.Tables.{ready_of}
use Rattle.table.specs.declared.Table.{Table}
use Rattle.soundness.proofs.Rules.{Rules}
use Rattle.channels.specs.Channels.{empty1, empty3, put1, put3, ends_ready}
use Rattle.channels.specs.declared.Message.{Message}
use Rattle.channels.specs.declared.Message.TheVariants.{Ready}
use Rattle.channels.specs.declared.Channel1.{Channel1}
use Rattle.channels.specs.declared.Channel3.{Channel3}
use Rattle.state.specs.States.{up_of, across_of, at_state, with_mode}
use Rattle.state.specs.Parts.{with_up, with_across}
use Rattle.state.specs.declared.Mode.{Mode}
use Rattle.state.specs.declared.Mode.TheVariants.{Free}
use Rattle.state.specs.declared.Task.{Task}
use Rattle.sound_state.specs.SoundState.{up_fits}
use Rattle.sound_state.specs.Parts.{state_sound}
use Rattle.tasks.specs.Tasks.{with, sent_up, sent_across, sent_at, sent_below, sent, announced_at, announced, moved_to}
use Rattle.tasks.specs.declared.Work.{Work}
use Rattle.kept.proofs.Channels.{put_up, put_one}
use Rattle.kept.proofs.Rules.{Kept, held_sound, up_rule, across_fit, across_rule}

-- a task with its mode or one channel changed, to one that follows the rule
module _ (T : Table) (t n : ℕ) (p : Task) (k : Kept T t n p) where
  pub up_kept : (g : ℕ) (c : Channel3) → up_rule T t g c ≡ true → Kept T t n (with_up p g c)
  up_kept g c h = record {
    sized = record {
      waiting = k.sized.waiting;
      up = length-set p.up g c ∙ k.sized.up;
      across = k.sized.across;
    };
    state = k.state;
    held = k.held;
    counted = k.counted;
    few = k.few;
    waiting = k.waiting;
    up = λ x l. store_at p.up g x c empty3 (λ (d : Channel3). up_rule T t x d ≡ true) (λ (e : x ≡ g). rw e h)
        (k.up x l);
    across = k.across;
  }

  pub mode_kept : (m : Mode) → held_sound T t m ≡ true → Kept T t n (with_mode p m)
  mode_kept m h = record {
    sized = record { waiting = k.sized.waiting; up = k.sized.up; across = k.sized.across };
    state = k.state;
    held = h;
    counted = k.counted;
    few = k.few;
    waiting = k.waiting;
    up = k.up;
    across = k.across;
  }

  pub across_kept : (b : ℕ) (c : Channel1) → across_rule T t b c ≡ true → Kept T t n (with_across p b c)
  across_kept b c h = record {
    sized = record {
      waiting = k.sized.waiting;
      up = k.sized.up;
      across = length-set p.across b c ∙ k.sized.across;
    };
    state = k.state;
    held = k.held;
    counted = k.counted;
    few = k.few;
    waiting = k.waiting;
    up = k.up;
    across = λ x l. store_at p.across b x c empty1 (λ (d : Channel1). across_rule T t x d ≡ true)
        (λ (e : x ≡ b). rw e h) (k.across x l);
  }

module _ (T : Table) (R : Rules T) (t : ℕ) (here : t < T.tasks) (n : ℕ) where
  -- between parties that are present
  pub with_gate_lem : (g : ℕ) → g < T.gates → (ltb t T.tasks && ltb g T.gates) ≡ true
  with_gate_lem g l = and_from _ _ (lt-ltb t T.tasks here) (lt-ltb g T.gates l)

  pub with_task_lem : (b : ℕ) → b < T.tasks → (ltb t T.tasks && ltb b T.tasks) ≡ true
  with_task_lem b l = and_from _ _ (lt-ltb t T.tasks here) (lt-ltb b T.tasks l)

  pub to_gate_kept : (w : Work) (g : ℕ) (m : Message) → g < T.gates → up_fits g m ≡ true
      → Kept T t n w.task → Kept T t n (sent_up w g m).task
  to_gate_kept w g m l f k =
      let c : Channel3 = up_of w.task g in
      let both = with_gate_lem g l in
      up_kept T t n w.task k g (put3 c m) (put_up _ both g c (k.up g (omega (arith, R.gates))) m f)

  pub to_task_kept : (w : Work) (b : ℕ) (m : Message) → b < T.tasks → across_fit T t b m ≡ true
      → Kept T t n w.task → Kept T t n (sent_across w b m).task
  to_task_kept w b m l f k =
      let c : Channel1 = across_of w.task b in
      let both = with_task_lem b l in
      across_kept T t n w.task k b (put1 c m)
      (put_one (across_fit T t b) _ c (k.across b (omega (arith, R.tasks))) both m f)

  pub sent_kept : (mask g : ℕ) (m : Message) (w : Work) → g < T.gates → ((y : ℕ) → y < t → across_fit T t y m ≡ true)
      → up_fits g m ≡ true
      → Kept T t n w.task → Kept T t n (sent t mask g m w).task
  unfolding sent_below
  sent_kept mask g m w l a f k = to_gate_kept (sent_below t mask m w) g m l f
      (turns_keep (λ (v : Work). Kept T t n v.task) (sent_at mask m) t w
      (λ y v below k. either (λ (x : Work). Kept T t n x.task) (member_of mask y) (sent_across v y m) v (to_task_kept v y m (omega arith) (a y below) k) k) k)

  pub announced_kept : (w : Work) → Kept T t n w.task → Kept T t n (announced T.moves T.gates t w).task
  unfolding announced
  announced_kept w = turns_keep (λ (v : Work). Kept T t n v.task)
      (announced_at T.moves T.gates t w.task.state) T.gates w
      (λ g v below k. either (λ (x : Work). Kept T t n x.task) (ready_of T.moves t w.task.state g && not (ends_ready (up_of v.task g)))
      (sent_up v g Ready) v (to_gate_kept v g Ready below refl k) k)

  -- at another of its states
  pub at_state_kept : (p : Task) (y : ℕ) → y < get_or T.states t 0 → Kept T t n p → Kept T t n (at_state p y)
  at_state_kept p y l k = record {
    sized = record { waiting = k.sized.waiting; up = k.sized.up; across = k.sized.across };
    state = subst (λ (b : Bool). state_sound b (get_or T.states t 0) y ≡ true) (sym (lt-ltb t T.tasks here))
        (lt-ltb y (get_or T.states t 0) l);
    held = k.held;
    counted = k.counted;
    few = k.few;
    waiting = k.waiting;
    up = k.up;
    across = k.across;
  }

  pub moved_kept : (to : Option ℕ) (w : Work) → ((y : ℕ) → to ≡ Some y → y < get_or T.states t 0)
      → Kept T t n w.task → Kept T t n (moved_to T.moves T.gates t to w).task
  moved_kept None w h k = k
  moved_kept (Some y) w h k = announced_kept (with w (with_mode (at_state w.task y) Free) w.ok)
      (mode_kept T t n (at_state w.task y) (at_state_kept w.task y (h y refl) k) Free refl)
