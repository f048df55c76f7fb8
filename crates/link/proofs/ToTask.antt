-- A message from a gate, or from another task, at a task.
use Prim.Native.Nat.{ℕ, ◌*◌, ◌<◌, ◌≤◌}
use mathlib.Core.Bool.{Bool, ◌&&◌, false, true}
use mathlib.Core.List.{List, [], ◌∷◌}
use mathlib.Core.Logic.{◌≢◌}
use mathlib.Core.Path.{◌≡◌, ◌∙◌, ap, refl, subst, sym}
use native.Mathlib.Omega.{arith}
use lib.Dec.{eqb, ltb}
use lib.ListN.{length, length-set}
use lib.Seq.{get_or-set_other}
use borrow.Author.Tests.{eq-eqb, eqb-true, ltb-true, ne_eqb}
use Rattle.std.proofs.lemmas.Bool.{and_parts}
use Rattle.sets.specs.Sets.{member_of}
use Rattle.table.specs.Tables.{ready_of}
use Rattle.table.specs.declared.Table.{Table}
use Rattle.channels.specs.Channels.{empty1}
use Rattle.channels.specs.declared.Channel1.{Channel1}
use Rattle.channels.specs.declared.Message.{Message}
use Rattle.channels.specs.declared.Message.TheVariants.{Abort, Commit, Lock, Ready}
use Rattle.channels.specs.declared.Request.{Request}
use Rattle.state.specs.States.{across_of, down_of, gate_of, no_task, pop_of, task_of, with_down}
use Rattle.state.specs.Parts.{with_across}
use Rattle.state.specs.declared.Link.TheVariants.{FromGate, ToTask}
use Rattle.state.specs.declared.Gate.{Gate}
use Rattle.state.specs.declared.Mode.{Mode}
use Rattle.state.specs.declared.State.{State}
use Rattle.state.specs.declared.Task.{Task}
use Rattle.tasks.specs.Tasks.{aborted, at_task, begun, committed, held_by, list_handled, locked}
use Rattle.tasks.specs.declared.Work.{Work}
use Rattle.delivery.specs.Delivery.{settled_at_task, delivered_at_task}
use Rattle.kept.proofs.Channels.{one_fits}
use Rattle.kept.proofs.Ends.{across_popped, down_popped}
use Rattle.kept.proofs.Rules.{across_fit, down_fit, names_of}
use Rattle.kept.proofs.States.{StateRules}
use Rattle.protocol.specs.Lines.{Line, held, result}
use Rattle.protocol.specs.Plans.{changed}
use Rattle.protocol.specs.Steps.{lock_taken, lock_taken_across}
use Rattle.protocol.proofs.Agree.{agree_path}
use Rattle.protocol.proofs.AtTask.{from_gate, from_task, result_at_task}
use Rattle.protocol.proofs.Cases.{clash, eqb_same}
use Rattle.protocol.proofs.Fronts.{phase_decided, token_passed, token_sent}
use Rattle.protocol.proofs.Invariant.{Invariant}
use Rattle.protocol.proofs.Taken.{pass_links, take_links, token_taken}
use Rattle.protocol.proofs.TokenMoves.{token_to}
use Rattle.protocol.proofs.Tokens.{in_hand}
use Rattle.line.specs.Contents.{messages1}
use Rattle.link.proofs.AtTask.{freed_work, locked_shows, result_shows}
use Rattle.link.proofs.Channels.{pop_messages1}
use Rattle.link.proofs.Frame.{changed_back, gate_changed, part_kept, row_changed_from, row_changed_to, row_kept, set_row, task_changed}
use Rattle.link.proofs.Made.{Made, made_at_task}
use Rattle.link.proofs.Shows.{Fit, Shows, begun_shows}
use Rattle.link.proofs.Tables.{Lawful, plan_of}
use Rattle.link.proofs.View.{across_list, down_list, line_of, line_with, newest_first, up_list, requests_of}

held_by_lem : (m : Mode) (g v : ℕ) → m ≡ held g v → held_by g m ≡ true
held_by_lem m g v e = ap (held_by g) e ∙ eqb_same g

module _ (T : Table) (q : Lawful T) (s : State) (log : List ℕ) (R : StateRules T s) (fits : s.logged * 2 ≤ length log)
    (i : Invariant (plan_of T) (line_of s log)) where
  abbrev X : Line
  X = line_of s log

  abbrev entries : List Request
  entries = newest_first s.logged log

  fit_at : (t : ℕ) → t < 16 → Fit (task_of s t)
  fit_at t l = record { sized = (R.task t l).kept.sized; few = (R.task t l).kept.few }

  -- from gate g to task b
  module _ (g b : ℕ) (hg : g < T.gates) (hb : b < T.tasks) where
    abbrev down : Channel1
    down = down_of (gate_of s g) b

    abbrev sender : Gate
    sender = with_down (gate_of s g) b empty1

    g16 : g < 16
    g16 = omega (arith, q.rules.gates)

    b16 : b < 16
    b16 = omega (arith, q.rules.tasks)

    -- b's task shows the line without the LOCK
    down_taken : Shows (gate_of (down_popped s g b)) entries b (task_of s) (begun (task_of s b)) (lock_taken X g b)
    down_taken = begun_shows (gate_of (down_popped s g b)) entries b (task_of s) (task_of s b) (lock_taken X g b) (fit_at b b16)
        (ap (λ (f : ℕ → Task). line_with f (gate_of (down_popped s g b)) entries) (changed_back (task_of s) b)
        ∙ ap (λ (f : ℕ → Gate). line_with (task_of s) f entries) (gate_changed s g sender (let y = g16 in omega (arith, R.gates)))
        ∙ agree_path (record {
          at = λ t. refl;
          mode = λ t. refl;
          waiting = λ t. refl;
          offers = row_kept (λ k y. member_of k.offers y) (gate_of s) g sender (λ y. refl);
          deal = part_kept (λ k. k.deal) (gate_of s) g sender refl;
          up = λ t x. refl;
          down = row_changed_from down_list (gate_of s) g b sender []
              (set_row messages1 (gate_of s g).down b empty1 empty1 (let y = b16 in let z = (R.gate g g16).sized.down in omega arith));
          across = λ x y. refl;
          log = refl;
        }))

    down_lock : (r : Request) → r.gate.0 ≡ g → X.down g b ≡ Lock r ∷ []
        → Made T s log (settled_at_task s (down_popped s g b) log b
        (locked T.moves T.gates b T.masks (task_of s b) r (task_of s b).mode))
    down_lock r eg e =
        let v : ℕ = r.vector in
        let et = (token_sent (plan_of T) X i.ghost i.links g b r.gate.0 v [] e).1 in
        let n = from_gate (plan_of T) q.right X i g b r.gate.0 v [] e in
        let m = locked_shows T q (gate_of (down_popped s g b)) entries b b16 (task_of s) (task_of s b) r (lock_taken X g b)
        (token_to i.ghost g (in_hand v b)) down_taken (take_links (plan_of T) X i.ghost i.links g v b et)
        (rw (eq-eqb r.gate.0 g eg)) (let y = g16 in omega arith) n in
        made_at_task T s log (down_popped s g b) b b16 _ _ R.tasks fits m n

    down_message : (m : Message) → down_fit T g b m ≡ true → X.down g b ≡ m ∷ []
        → Made T s log (settled_at_task s (down_popped s g b) log b (at_task T.moves T.gates b T.masks (task_of s b) m))
    unfolding at_task
    down_message Ready f e = clash (sym f)
    down_message (Lock r) f e = down_lock r (eqb-true r.gate.0 g ((and_parts (eqb r.gate.0 g) (names_of T b r) f).0)) e
    down_message (Commit h) f e = clash (sym f)
    down_message (Abort h) f e = clash (sym f)

    pub made_from_gate : (down.count ≡ 0 → ⊥) → Made T s log (delivered_at_task T.moves T.masks T.gates s log b (pop_of s (FromGate (record { 0 = g }) (record { 0 = b }))))
    unfolding delivered_at_task
    made_from_gate n =
        let k = (R.gate g g16).down b b16 in
        rw (ne_eqb down.count 0 n) (down_message down.first
        (one_fits (down_fit T g b) (ltb g T.gates && ltb b T.tasks) down k n) (pop_messages1 down n))

  -- from task a to task b
  module _ (a b : ℕ) (ha : a < T.tasks) (hb : b < T.tasks) (ne : a ≢ b) where
    abbrev across : Channel1
    across = across_of (task_of s a) b

    abbrev passer : Task
    passer = with_across (task_of s a) b empty1

    abbrev S : ℕ → Task
    S = task_of (across_popped s a b)

    a16 : a < 16
    a16 = omega (arith, q.rules.tasks)

    c16 : b < 16
    c16 = omega (arith, q.rules.tasks)

    -- b's task shows the line without the message
    across_taken : Shows (gate_of s) entries b S (begun (task_of s b)) (lock_taken_across X a b)
    across_taken = begun_shows (gate_of s) entries b S (task_of s b) (lock_taken_across X a b) (fit_at b c16)
        (ap (λ (p : Task). line_with (changed S b p) (gate_of s) entries) (sym same_task)
        ∙ ap (λ (f : ℕ → Task). line_with f (gate_of s) entries) (changed_back S b)
        ∙ ap (λ (f : ℕ → Task). line_with f (gate_of s) entries) (task_changed s a passer (let y = a16 in omega (arith, R.tasks)))
        ∙ agree_path (record {
          at = part_kept (λ p. p.state) (task_of s) a passer refl;
          mode = part_kept (λ p. p.mode) (task_of s) a passer refl;
          waiting = part_kept requests_of (task_of s) a passer refl;
          offers = λ x y. refl;
          deal = λ x. refl;
          down = λ x y. refl;
          up = row_kept up_list (task_of s) a passer (λ y. refl);
          across = row_changed_to across_list (task_of s) a b passer []
              (set_row messages1 (task_of s a).across b empty1 empty1 (let y = c16 in let z = (R.task a a16).kept.sized.across in omega arith));
          log = refl;
        }))
      where
        same_task : S b ≡ task_of s b
        same_task = get_or-set_other s.tasks a b passer no_task (λ p. ne (sym p))

    made : (w : Work) (x : Line) → Shows (gate_of s) entries b S w x → Invariant (plan_of T) x
        → Made T s log (settled_at_task s (across_popped s a b) log b w)
    made w x = made_at_task T s log (across_popped s a b) b c16 w x (length-set s.tasks a passer ∙ R.tasks) fits

    across_lock : (r : Request) → a < b → X.across a b ≡ Lock r ∷ []
        → Made T s log (settled_at_task s (across_popped s a b) log b
        (locked T.moves T.gates b T.masks (task_of s b) r (task_of s b).mode))
    across_lock r lt e =
        let g : ℕ = r.gate.0 in
        let v : ℕ = r.vector in
        let et = token_passed (plan_of T) X i.ghost i.links a b g v [] lt e in
        let hg : g < T.gates = (q.present g v b (rw et at (i.links.gate g).token_right).0).gate in
        let n = from_task (plan_of T) q.right X i a b g v [] lt e in
        made _ _ (locked_shows T q (gate_of s) entries b c16 S (task_of s b) r (lock_taken_across X a b)
        (token_taken i.ghost g a (in_hand v b)) across_taken (pass_links (plan_of T) X i.ghost i.links g v a b et)
        (rw eqb_same) (omega (arith, q.rules.gates)) n) n

    -- the task after a result of gate g, with its waiting list handled
    abbrev resulted : Bool → ℕ → Work
    resulted true g = committed T.moves T.gates b T.masks (task_of s b) g
    resulted false g = aborted T.moves T.gates b T.masks (task_of s b) g

    across_result : (k : Bool) (g : ℕ) → b < a → X.across a b ≡ result k g ∷ []
        → Made T s log (settled_at_task s (across_popped s a b) log b (resulted k g))
    across_result k g lt e =
        let d = phase_decided (plan_of T) X i.ghost i.links a b g k [] lt e in
        let f = result_at_task (plan_of T) q.right X i a b g k [] lt e in
        let m = result_shows T q (gate_of s) entries b c16 S (task_of s b) X i a g d.0 k d.1 across_taken in
        subst (λ (w : Work). Made T s log (settled_at_task s (across_popped s a b) log b w))
        (sym (same_work k (held_by_lem (task_of s b).mode g f.0.0 f.0.1) f.0.2)) (made _ _ m f.1)
      where
        same_work : (k : Bool) → held_by g (task_of s b).mode ≡ true → ready_of T.moves b (task_of s b).state g ≡ true
            → resulted k g ≡ list_handled T.moves T.gates b T.masks (task_of s b).count (freed_work T b (task_of s b) g k)
        same_work true held ready = rw (held, ready)
        same_work false held ready = rw held

    across_message : (m : Message) → across_fit T a b m ≡ true → X.across a b ≡ m ∷ []
        → Made T s log (settled_at_task s (across_popped s a b) log b (at_task T.moves T.gates b T.masks (task_of s b) m))
    unfolding at_task
    across_message Ready f e = clash (sym f)
    across_message (Lock r) f e = across_lock r (ltb-true a b ((and_parts (ltb a b) (names_of T b r) f).0)) e
    across_message (Commit h) f e = across_result true h.0 (ltb-true b a ((and_parts (ltb b a) (ltb h.0 T.gates) f).0)) e
    across_message (Abort h) f e = across_result false h.0 (ltb-true b a ((and_parts (ltb b a) (ltb h.0 T.gates) f).0)) e

    pub made_to_task : (across.count ≡ 0 → ⊥) → Made T s log (delivered_at_task T.moves T.masks T.gates s log b (pop_of s (ToTask (record { 0 = a }) (record { 0 = b }))))
    unfolding delivered_at_task
    made_to_task n =
        let k = (R.task a a16).kept.across b c16 in
        rw (ne_eqb across.count 0 n) (across_message across.first
        (one_fits (across_fit T a b) (ltb a T.tasks && ltb b T.tasks) across k n) (pop_messages1 across n))
