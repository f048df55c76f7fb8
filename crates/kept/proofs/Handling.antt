-- A request that a present task handles, and the messages that come to it, keep its rules.
use Rattle.std.specs.Prelude.{Option, Some, None, is_some}
use Prim.Native.Nat.{ℕ, suc, zero, ◌+◌, ◌<◌, ◌≤◌}
use mathlib.Core.Bool.{Bool, true, false, cond, ◌&&◌, true≢false}
use mathlib.Core.Logic.{⊎_elim}
use mathlib.Core.Path.{◌≡◌, refl, sym, ap, ◌∙◌}
use native.Mathlib.Omega.{arith}
use lib.Dec.{ltb}
use lib.ListN.{get_or, length, get_or-eq_default}
use borrow.Author.Tests.{lt-ltb, ltb-true, eq-eqb, eqb-true}
use Rattle.std.proofs.lemmas.Bool.{and_from, and_parts}
use Rattle.laws.proofs.Tests.{le_or_lt, either}
use Rattle.sets.specs.Sets.{member_of, next_above_of}
use Rattle.numbers.specs.declared.TaskNo.{TaskNo}
use Rattle.sets.proofs.Members.{member_under}
use Rattle.sets.proofs.Ends.{next_says}
use Rattle.table.specs.Tables.{mask_of, move_of, ready_of}
use Rattle.table.specs.declared.Table.{Table}
use Rattle.soundness.proofs.Rules.{Rules, below_by, move_leads}
use Rattle.channels.specs.Channels.{no_request}
use Rattle.channels.specs.declared.Request.{Request}
use Rattle.channels.specs.declared.Message.{Message}
use Rattle.channels.specs.declared.Message.TheVariants.{Ready, Lock, Commit, Abort}
use Rattle.state.specs.States.{with_mode, with_last, without_front}
use Rattle.state.specs.declared.Mode.{Mode}
use Rattle.state.specs.declared.Mode.TheVariants.{Free, Held}
use Rattle.state.specs.declared.Task.{Task}
use Rattle.sound_state.specs.SoundState.{up_fits}
use Rattle.tasks.specs.Parts.{waits}
use Rattle.tasks.specs.Tasks.{with, begun, excluded, entered, sent, is_free, held_by, accepted, moved_to, handled, list_handled, locked, at_task}
use Rattle.tasks.specs.declared.Work.{Work}
use Rattle.kept.proofs.Rules.{Kept, TaskRules, names_of, across_fit, comes, rules_of}
use Rattle.kept.proofs.Sends.{to_task_kept, sent_kept, mode_kept, moved_kept}
use Rattle.kept.proofs.Waiting.{front_names, front_kept, last_kept}

-- what a request names: a present gate, an existing vector, present tasks
pub record Named (T : Table) (r : Request) : Type 0 where
  pub gate : r.gate.0 < T.gates
  pub vector : r.vector < get_or T.vectors r.gate.0 0
  pub tasks : (c : ℕ) → member_of (mask_of T.masks r.gate.0 r.vector) c ≡ true → c < T.tasks

module _ (T : Table) (R : Rules T) (room : length T.vectors ≡ 16) where
  pub named : (t : ℕ) (r : Request) → names_of T t r ≡ true → Named T r
  named t r h =
      let g : ℕ = r.gate.0 in
      let v : r.vector < get_or T.vectors g 0 =
      ltb-true _ _ ((and_parts (ltb r.vector (get_or T.vectors g 0)) _ h).0) in
      let g16 : g < 16 = ⊎_elim
      (λ (l : 16 ≤ g). absurd (omega (arith, get_or-eq_default T.vectors 0 {n = g} (omega arith))))
      (λ (l : g < 16). l)
      (le_or_lt 16 g) in
      record {
        gate = below_by T.gates g (get_or T.vectors g 0) (R.no_vectors g g16) (omega arith);
        vector = v;
        tasks = λ c m. member_under T.tasks (mask_of T.masks g r.vector) c
            (eqb-true _ _ (R.members g r.vector g16 v)) m;
      }

-- Task t of a sound table.
module _ (T : Table) (R : Rules T) (room : length T.vectors ≡ 16) (t : ℕ) (here : t < T.tasks) where
  -- its moves lead to its states
  leads : (x g y : ℕ) → move_of T.moves t x g ≡ Some y → y < get_or T.states t 0
  leads x g y e = (move_leads T R t x g y e).target

  abbrev mask_in : Request → ℕ
  mask_in r = mask_of T.masks r.gate.0 r.vector

  module _ (n : ℕ) where
    -- a result that names the gate of a request, sent to each lower task of its vector and to the gate
    result_kept : (r : Request) (m : Message) (w : Work)
        → ((y : ℕ) → across_fit T t y m ≡ (ltb y t && ltb r.gate.0 T.gates))
        → up_fits r.gate.0 m ≡ true → names_of T t r ≡ true
        → Kept T t n w.task → Kept T t n (sent t (mask_in r) r.gate.0 m w).task
    result_kept r m w a f h =
        let d = named T R room t r h in
        sent_kept T R t here n (mask_in r) r.gate.0 m w d.gate
        (λ y l. a y ∙ and_from _ _ (lt-ltb y t l) (lt-ltb r.gate.0 T.gates d.gate)) f

    accepted_kept : (r : Request) (above : Option TaskNo) (w : Work) → next_above_of (mask_in r) t ≡ above → names_of T t r ≡ true
        → Kept T t n w.task → Kept T t n (accepted T.moves T.gates t r (mask_in r) above w).task
    accepted_kept r (Some c) w e h k =
        let d = named T R room t r h in
        let f = next_says (mask_in r) t c e in
        let v : names_of T c.0 r ≡ true =
        and_from _ _ (lt-ltb r.vector (get_or T.vectors r.gate.0 0) d.vector) f.member in
        to_task_kept T R t here n (with w (with_mode w.task (Held r)) w.ok) c.0 (Lock r)
        (d.tasks c.0 f.member) (and_from _ _ (lt-ltb t c.0 f.low) v)
        (mode_kept T t n w.task k (Held r) (and_from _ _ h (ap is_some e)))
    accepted_kept r None w e h k =
        moved_kept T R t here n (move_of T.moves t w.task.state r.gate.0)
        (sent t (mask_in r) r.gate.0 (Commit r.gate) (entered w r)) (leads w.task.state r.gate.0)
        (result_kept r (Commit r.gate) (entered w r) (λ y. refl) (eq-eqb r.gate.0 r.gate.0 refl) h k)

    pub handled_kept : (r : Request) (w : Work) → names_of T t r ≡ true
        → Kept T t n w.task → Kept T t n (handled T.moves T.gates t T.masks r w).task
    unfolding handled
    handled_kept r w h k = turn (ready_of T.moves t w.task.state r.gate.0)
      where
        turn : (b : Bool) → Kept T t n (cond b
            (accepted T.moves T.gates t r (mask_in r) (next_above_of (mask_in r) t) w)
            (sent t (mask_in r) r.gate.0 (Abort r.gate) w)).task
        turn true = accepted_kept r (next_above_of (mask_in r) t) w refl h k
        turn false = result_kept r (Abort r.gate) w (λ y. refl) (eq-eqb r.gate.0 r.gate.0 refl) h k

  -- the list is handled until the task is Held or none waits
  list_kept : (n : ℕ) (w : Work) → Kept T t n w.task
      → TaskRules T t (list_handled T.moves T.gates t T.masks n w).task
  unfolding list_handled
  list_kept zero w k = rules_of T t 0 w.task k (λ e. refl)
  list_kept (suc n) w k =
      let r : Request = get_or w.task.waiting 0 no_request in
      let v : Work = with w (without_front w.task) w.ok in
      turn (is_free w.task.mode) refl (list_handled T.moves T.gates t T.masks n
      (handled T.moves T.gates t T.masks r v))
      (list_kept n (handled T.moves T.gates t T.masks r v)
      (handled_kept n r v (front_names T t n w.task k) (front_kept T t n w.task k)))
    where
      turn : (b : Bool) → is_free w.task.mode ≡ b → (v : Work) → TaskRules T t v.task
          → TaskRules T t (cond b v w).task
      turn true e v h = h
      turn false e v h = rules_of T t (suc n) w.task k (λ f. absurd (true≢false (sym f ∙ e)))

  module _ (p : Task) (h : TaskRules T t p) where
    waits_kept : (r q : Request) → p.mode ≡ Held q → names_of T t r ≡ true → TaskRules T t (waits p r).task
    waits_kept r q e f = turn (ltb p.count 16) refl
      where
        turn : (b : Bool) → ltb p.count 16 ≡ b → TaskRules T t (cond b (begun (with_last p r)) (excluded p)).task
        turn true l =
            rw l (rules_of T t (p.count + 1) _ (last_kept T t p.count p r (ltb-true p.count 16 l) f h.kept)
            (λ z. absurd (true≢false (sym z ∙ ap is_free e))))
        turn false l = h

    locked_kept : (r : Request) (m : Mode) → p.mode ≡ m → names_of T t r ≡ true
        → TaskRules T t (locked T.moves T.gates t T.masks p r m).task
    locked_kept r Free e f =
        rules_of T t p.count _ (handled_kept p.count r (begun p) f h.kept) (λ z. h.free (ap is_free e))
    locked_kept r (Held q) e f = waits_kept r q e f

    pub at_task_kept : (m : Message) → comes T t m ≡ true
        → TaskRules T t (at_task T.moves T.gates t T.masks p m).task
    unfolding at_task
    at_task_kept Ready f = h
    at_task_kept (Lock r) f = locked_kept r p.mode refl f
    at_task_kept (Commit g) f = either (λ (x : Work). TaskRules T t x.task) (held_by g.0 p.mode && ready_of T.moves t p.state g.0) _ (excluded p)
        (list_kept p.count (moved_to T.moves T.gates t (move_of T.moves t p.state g.0) (begun p))
        (moved_kept T R t here p.count (move_of T.moves t p.state g.0) (begun p) (leads p.state g.0)
        h.kept)) h
    at_task_kept (Abort g) f = either (λ (x : Work). TaskRules T t x.task) (held_by g.0 p.mode) _ (excluded p)
        (list_kept p.count (begun (with_mode p Free)) (mode_kept T t p.count p h.kept Free refl)) h
