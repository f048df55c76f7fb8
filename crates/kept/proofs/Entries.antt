-- Every entry that a delivery writes names a gate below 16 and a vector below 8.
use Rattle.std.specs.Prelude.{Option, Some, None}
use Prim.Native.Nat.{ℕ, suc, zero, ◌+◌, ◌*◌, ◌<◌, ◌≤◌}
use mathlib.Core.Bool.{true, ◌&&◌, not}
use mathlib.Core.List.{List}
use mathlib.Core.Logic.{⊎_elim}
use mathlib.Core.Path.{◌≡◌, refl, sym, subst}
use native.Mathlib.Omega.{arith}
use lib.Dec.{ltb}
use lib.ListN.{get_or, length, replicate}
use Rattle.laws.proofs.Stores.{store_at}
use Rattle.std.proofs.lemmas.Bool.{cases_eq}
use Rattle.laws.proofs.Tests.{either}
use Rattle.laws.proofs.Turning.{turns_keep}
use Rattle.sets.specs.Sets.{member_of, next_above_of}
use Rattle.numbers.specs.declared.TaskNo.{TaskNo}
use Rattle.table.specs.Tables.{mask_of, move_of, ready_of}
use Rattle.table.specs.declared.Table.{Table}
use Rattle.soundness.proofs.Rules.{Rules, sound_rules, move_leads}
use Rattle.channels.specs.Channels.{no_request, ends_ready}
use Rattle.channels.specs.declared.Request.{Request}
use Rattle.channels.specs.declared.Message.{Message}
use Rattle.channels.specs.declared.Message.TheVariants.{Ready, Lock, Commit, Abort}
use Rattle.state.specs.States.{task_of, gate_of, up_of, across_of, down_of, at_state, with_mode, with_last, without_front}
use Rattle.state.specs.declared.Mode.{Mode}
use Rattle.state.specs.declared.Mode.TheVariants.{Free, Held}
use Rattle.state.specs.declared.State.{State}
use Rattle.state.specs.declared.Task.{Task}
use Rattle.tasks.specs.Tasks.{with, begun, excluded, sent_up, sent_across, entered, is_free, held_by, sent_at, sent_below, sent, announced_at, announced, moved_to, accepted, handled, list_handled, locked, at_task}
use Rattle.tasks.specs.declared.Work.{Work}
use Rattle.delivery.specs.Delivery.{Outcome, sound_for, written, delivered}
use Rattle.delivery.specs.Delivery as delivery
use Rattle.kept.proofs.Rules.{Kept, TaskRules, names_of, comes}
use Rattle.kept.proofs.Sends.{mode_kept, moved_kept}
use Rattle.kept.proofs.Waiting.{front_names, front_kept}
use Rattle.kept.proofs.Handling.{named, handled_kept}
use Rattle.kept.proofs.States.{SizedState, state_rules, sound_says}
use Rattle.kept.proofs.Ends.{Ends, HasRoom, refuses, to_gate, to_task, from_gate, ends}
use Rattle.kept.proofs.Log.{entry_at, entry_new, entry_old, same_length}
use Rattle.kept.proofs.Kept.{across_front, down_front}

pub record InRange (r : Request) : Type 0 where
  pub gate : r.gate.0 < 16
  pub vector : r.vector < 8

-- the first n entries of a log; those of work at a task, unused room among them
abbrev pub LogInRange : ℕ → List ℕ → Type 0
LogInRange n log = (k : ℕ) → k < n → InRange (entry_at log k)

abbrev WorkInRange : Work → Type 0
WorkInRange w = (k : ℕ) → InRange (get_or w.entries k no_request)

none : (n k : ℕ) → InRange (get_or (replicate n no_request) k no_request)
none zero k = record { gate = omega arith; vector = omega arith }
none (suc n) zero = record { gate = omega arith; vector = omega arith }
none (suc n) (suc k) = none n k

-- what is sent and announced writes no entry
sent_ranged : (b mask g : ℕ) (m : Message) (w : Work) → WorkInRange w → WorkInRange (sent b mask g m w)
unfolding sent_below
sent_ranged b mask g m w h =
    turns_keep WorkInRange (sent_at mask m) b w (λ y v below k. either WorkInRange (member_of mask y) (sent_across v y m) v k k) h

moved_ranged : (moves : List ℕ) (gates b : ℕ) (to : Option ℕ) (w : Work) → WorkInRange w → WorkInRange (moved_to moves gates b to w)
unfolding announced
moved_ranged moves gates b None w h = h
moved_ranged moves gates b (Some y) w h =
    turns_keep WorkInRange (announced_at moves gates b y) gates (with w (with_mode (at_state w.task y) Free) w.ok)
    (λ g v below k. either WorkInRange (ready_of moves b y g && not (ends_ready (up_of v.task g))) (sent_up v g Ready) v k k) h

module _ (T : Table) (R : Rules T) (room : length T.vectors ≡ 16) (t : ℕ) (here : t < T.tasks) where
  named_ranged : (r : Request) → names_of T t r ≡ true → InRange r
  named_ranged r h =
      let d = named T R room t r h in
      let g : r.gate.0 < 16 = omega (arith, d.gate, R.gates) in
      record { gate = g; vector = omega (arith, d.vector, R.vectors r.gate.0 g) }

  accepted_ranged : (r : Request) (mask : ℕ) (above : Option TaskNo) (w : Work) → InRange r → WorkInRange w
      → WorkInRange (accepted T.moves T.gates t r mask above w)
  accepted_ranged r mask (Some c) w i h = h
  accepted_ranged r mask None w i h =
      moved_ranged T.moves T.gates t (move_of T.moves t w.task.state r.gate.0)
      (sent t mask r.gate.0 (Commit r.gate) (entered w r))
      (sent_ranged t mask r.gate.0 (Commit r.gate) (entered w r)
      (λ k. store_at w.entries w.fired k r no_request InRange (λ e. i) (h k)))

  handled_ranged : (r : Request) (w : Work) → names_of T t r ≡ true → WorkInRange w
      → WorkInRange (handled T.moves T.gates t T.masks r w)
  unfolding handled
  handled_ranged r w f h =
      let mask : ℕ = mask_of T.masks r.gate.0 r.vector in
      either WorkInRange (ready_of T.moves t w.task.state r.gate.0) _ _
      (accepted_ranged r mask (next_above_of mask t) w (named_ranged r f) h)
      (sent_ranged t mask r.gate.0 (Abort r.gate) w h)

  list_ranged : (n : ℕ) (w : Work) → Kept T t n w.task → WorkInRange w
      → WorkInRange (list_handled T.moves T.gates t T.masks n w)
  unfolding list_handled
  list_ranged zero w k h = h
  list_ranged (suc n) w k h =
      let r : Request = get_or w.task.waiting 0 no_request in
      let v : Work = with w (without_front w.task) w.ok in
      let f = front_names T t n w.task k in
      either WorkInRange (is_free w.task.mode) _ w
      (list_ranged n (handled T.moves T.gates t T.masks r v)
      (handled_kept T R room t here n r v f (front_kept T t n w.task k)) (handled_ranged r v f h)) h

  module _ (p : Task) (h : TaskRules T t p) where
    locked_ranged : (r : Request) (m : Mode) → names_of T t r ≡ true
        → WorkInRange (locked T.moves T.gates t T.masks p r m)
    locked_ranged r Free f = handled_ranged r (begun p) f (none 16)
    locked_ranged r (Held q) f = either WorkInRange (ltb p.count 16) (begun (with_last p r)) (excluded p) (none 16) (none 16)

    at_task_ranged : (m : Message) → comes T t m ≡ true → WorkInRange (at_task T.moves T.gates t T.masks p m)
    unfolding at_task
    at_task_ranged Ready f = none 16
    at_task_ranged (Lock r) f = locked_ranged r p.mode f
    at_task_ranged (Commit g) f =
        let to : Option ℕ = move_of T.moves t p.state g.0 in
        either WorkInRange (held_by g.0 p.mode && ready_of T.moves t p.state g.0) _ (excluded p)
        (list_ranged p.count (moved_to T.moves T.gates t to (begun p))
        (moved_kept T R t here p.count to (begun p) (λ y e. (move_leads T R t p.state g.0 y e).target) h.kept)
        (moved_ranged T.moves T.gates t to (begun p) (none 16))) (none 16)
    at_task_ranged (Abort g) f = either WorkInRange (held_by g.0 p.mode) _ (excluded p)
        (list_ranged p.count (begun (with_mode p Free)) (mode_kept T t p.count p h.kept Free refl) (none 16)) (none 16)

-- n entries written behind the first `at`
module _ (at : ℕ) (w : Work) (log : List ℕ) (f : WorkInRange w) (h : LogInRange at log) where
  written_ranged : (n : ℕ) → (at + n) * 2 ≤ length log → LogInRange (at + n) (written at w.entries n log)
  unfolding written
  written_ranged zero l k m = h k (omega arith)
  written_ranged (suc n) l k m =
      let before : List ℕ = written at w.entries n log in
      let r : Request = get_or w.entries n no_request in
      let z : length before ≡ length log = same_length at w.entries n log in
      ⊎_elim
      (λ (e : k ≡ at + n). subst (λ (i : ℕ). InRange (entry_at (delivery.entered_in_log (at + n) r before) i)) (sym e)
      (subst InRange (sym (entry_new (at + n) r before (omega arith))) (f n)))
      (λ (e : k ≡ at + n → ⊥). subst InRange (sym (entry_old (at + n) r before k e))
      (written_ranged n (omega arith) k (omega arith)))
      (cases_eq k (at + n))

module _ (T : Table) (room : length T.vectors ≡ 16) (s : State) (log : List ℕ) (z : SizedState s)
    (h : LogInRange s.logged log) where
  -- work at task b, for which there is room
  at_task_lem : (b : ℕ) (m : Message) → sound_for T s (length log) ≡ true → b < T.tasks → comes T b m ≡ true
      → HasRoom s log (at_task T.moves T.gates b T.masks (task_of s b) m)
      → (let w = at_task T.moves T.gates b T.masks (task_of s b) m in
      LogInRange (s.logged + w.fired) (written s.logged w.entries w.fired log))
  at_task_lem b m p y f l =
      let q = sound_says T s log p in
      let R = sound_rules T q.table in
      let w : Work = at_task T.moves T.gates b T.masks (task_of s b) m in
      written_ranged s.logged w log
      (at_task_ranged T R room b y (task_of s b) ((state_rules T s z q.state).task b (omega (arith, R.tasks))) m f)
      h w.fired (omega (arith, q.logged))

  after : (o : Outcome) → Ends T s log o → LogInRange o.state.logged o.log
  after _ (refuses a n) = h
  after _ (to_gate t g p x y) = h
  after _ (to_task a b p x y n l) =
      let q = sound_says T s log p in
      at_task_lem b (across_of (task_of s a) b).first p y
      (across_front T (sound_rules T q.table) s (state_rules T s z q.state) a b x y n) l
  after _ (from_gate g b p x y n l) =
      let q = sound_says T s log p in
      at_task_lem b (down_of (gate_of s g) b).first p y
      (down_front T (sound_rules T q.table) s (state_rules T s z q.state) g b x y n) l

  pub outcome_ranged : (from to : ℕ) → LogInRange (delivered T s log from to).state.logged (delivered T s log from to).log
  outcome_ranged from to = after (delivered T s log from to) (ends T s log from to)
