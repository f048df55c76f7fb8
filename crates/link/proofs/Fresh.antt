-- The fresh state is the protocol's.
use Prim.Native.Nat.{ℕ, ◌≤◌, suc, zero}
use mathlib.Core.Bool.{Bool, ◌&&◌, cond, false, true}
use mathlib.Core.List.{List, [], ◌∷◌}
use mathlib.Core.Path.{◌≡◌, ◌∙◌, ap, refl, subst, sym}
use native.Mathlib.Omega.{arith}
use lib.Dec.{eqb, ltb}
use lib.ListN.{get_or-eq_default, get_or, get_or-replicate, length, length-replicate, length-set, replicate}
use borrow.Author.Tests.{le-ltb, lt-ltb, ltb-false, ltb-true}
use Rattle.laws.specs.Turns.{up_to}
use Rattle.sets.specs.Sets.{member_of}
use Rattle.sets.proofs.Members.{member_none}
use Rattle.table.specs.Tables.{ready_of}
use Rattle.table.specs.declared.Table.{Table}
use Rattle.channels.specs.Channels.{empty1, empty3, no_request}
use Rattle.channels.specs.declared.Message.TheVariants.{Ready}
use Rattle.state.specs.States.{at_state, empty_gate, empty_state, empty_task, gate_of, no_gate, no_task, task_of}
use Rattle.state.specs.declared.Gate.{Gate}
use Rattle.state.specs.declared.Mode.TheVariants.{Free}
use Rattle.state.specs.declared.State.{State}
use Rattle.state.specs.declared.Task.{Task}
use Rattle.tasks.specs.Tasks.{announced}
use Rattle.tasks.specs.declared.Work.{Work}
use Rattle.fresh.specs.Fresh.{fresh_state, started_at}
use Rattle.fresh.specs.Parts.{started}
use Rattle.protocol.specs.Lines.{Line, fresh, ready_if}
use Rattle.protocol.proofs.Agree.{agree_path}
use Rattle.protocol.proofs.Invariant.{Invariant}
use Rattle.protocol.proofs.Start.{fresh_ok}
use Rattle.link.proofs.Frame.{set_changed}
use Rattle.link.proofs.Loops.{Told, below, below_more, below_none, tell, with_ups}
use Rattle.link.proofs.Tables.{Lawful, plan_of}
use Rattle.link.proofs.View.{across_list, down_list, line_of, newest_first, up_list, requests_of}

-- what is the same everywhere in a list, and behind its end
same_everywhere : {A : Type 0} (n i : ℕ) (a : A) → get_or (replicate n a) i a ≡ a
same_everywhere n i a = turn (ltb i n) refl
  where
    turn : (c : Bool) → ltb i n ≡ c → get_or (replicate n a) i a ≡ a
    turn true e = get_or-replicate n i a a (ltb-true i n e)
    turn false e = get_or-eq_default (replicate n a) a (let l = ltb-false i n e in let y = length-replicate n a in omega arith)

-- a part of a party of the empty state, and of one that there is not
part_of : {A B : Type 0} (f : A → B) (a d : A) → f a ≡ f d → (x : ℕ) → f (get_or (replicate 16 a) x d) ≡ f a
part_of f a d h x = turn (ltb x 16) refl
  where
    turn : (c : Bool) → ltb x 16 ≡ c → f (get_or (replicate 16 a) x d) ≡ f a
    turn true e = ap f (get_or-replicate 16 x a d (ltb-true x 16 e))
    turn false e = ap f (get_or-eq_default (replicate 16 a) d {n = x} (let l = ltb-false x 16 e in omega arith)) ∙ sym h

module _ (T : Table) (q : Lawful T) where
  abbrev start_of : ℕ → ℕ
  start_of x = get_or T.starts x 0

  -- task x, started
  abbrev fresh_task : ℕ → Task
  fresh_task x = started T.moves T.gates x (start_of x) empty_task

  -- the state after the first n have started
  record Begun (n : ℕ) (s : State) : Type 0 where
    tasks : (x : ℕ) → task_of s x ≡ below (λ _. true) (task_of empty_state) fresh_task n x
    gates : s.gates ≡ empty_state.gates
    logged : s.logged ≡ 0
    long : length s.tasks ≡ 16

  begun : (n : ℕ) → n ≤ 16 → Begun n (up_to (started_at T) n empty_state)
  begun zero h = record {
    tasks = λ x. sym (below_none (λ _. true) (task_of empty_state) fresh_task x);
    gates = refl;
    logged = refl;
    long = refl;
  }
  begun (suc n) h = turn (begun n (omega arith))
    where
      turn : Begun n (up_to (started_at T) n empty_state) → Begun (suc n) (started_at T n (up_to (started_at T) n empty_state))
      turn r =
          let s : State = up_to (started_at T) n empty_state in
          let e : task_of s n ≡ empty_task =
          r.tasks n ∙ rw (le-ltb n n (omega arith)) (get_or-replicate 16 n empty_task no_task (omega arith)) in
          record {
            tasks = λ x. set_changed s.tasks n _ no_task (let y = r.long in omega arith) x
                ∙ ap (λ (p : Task). cond (eqb x n) (started T.moves T.gates n (start_of n) p) (task_of s x)) e
                ∙ ap (λ (p : Task). cond (eqb x n) (fresh_task n) p) (r.tasks x)
                ∙ below_more (λ _. true) (task_of empty_state) fresh_task n x refl;
            gates = r.gates;
            logged = r.logged;
            long = simp length-set r.long;
          }

  all_begun : Begun T.tasks (fresh_state T)
  unfolding fresh_state
  all_begun = begun T.tasks q.rules.tasks

  -- what a started task has sent
  told : (x : ℕ) → Told T.moves T.gates x (start_of x) (at_state empty_task (start_of x)) 0 (replicate 16 no_request) refl
      (λ g. rw (same_everywhere 16 g empty3) (omega arith)) T.gates
  told x = tell T.moves T.gates x (start_of x) (at_state empty_task (start_of x)) 0 (replicate 16 no_request) refl
      (λ g. rw (same_everywhere 16 g empty3) (omega arith)) T.gates q.rules.gates

  fresh_is : (x : ℕ) → fresh_task x ≡ with_ups (at_state empty_task (start_of x)) (told x).channels
  unfolding announced
  fresh_is x = ap (λ (w : Work). w.task) (told x).is

  fresh_up : (x g : ℕ) → up_list (fresh_task x) g ≡ ready_if (ready_of T.moves x (start_of x) g)
  fresh_up x g = ap (λ (p : Task). up_list p g) (fresh_is x) ∙ (told x).row g ∙ rw (same_everywhere 16 g empty3)
      (turn (ready_of T.moves x (start_of x) g) refl)
    where
      turn : (c : Bool) → ready_of T.moves x (start_of x) g ≡ c → cond (c && ltb g T.gates) (Ready ∷ []) [] ≡ ready_if c
      turn true e = rw (lt-ltb g T.gates (q.leads x (start_of x) g e).gate)
      turn false e = refl

  -- a part of a fresh task, present or absent
  part : {B : Type 0} (f : Task → B) (goal : ℕ → B) → f empty_task ≡ f no_task → ((x : ℕ) → f (fresh_task x) ≡ goal x)
      → ((x : ℕ) → T.tasks ≤ x → f empty_task ≡ goal x) → (x : ℕ) → f (task_of (fresh_state T) x) ≡ goal x
  part f goal h a c x = ap f (all_begun.tasks x) ∙ turn (ltb x T.tasks) refl
    where
      turn : (b : Bool) → ltb x T.tasks ≡ b → f (cond (true && b) (fresh_task x) (task_of empty_state x)) ≡ goal x
      turn true e = a x
      turn false e = part_of f empty_task no_task h x ∙ c x (ltb-false x T.tasks e)

  part_gate : {B : Type 0} (f : Gate → B) → f empty_gate ≡ f no_gate → (x : ℕ) → f (gate_of (fresh_state T) x) ≡ f empty_gate
  part_gate f h x = ap (λ (l : List Gate). f (get_or l x no_gate)) all_begun.gates ∙ part_of f empty_gate no_gate h x

  fresh_line : (log : List ℕ) → line_of (fresh_state T) log ≡ fresh (plan_of T)
  fresh_line log = agree_path (record {
    at = part (λ p. p.state) (plan_of T).start refl (λ x. ap (λ (p : Task). p.state) (fresh_is x)) (λ x h. sym (q.no_start x h));
    mode = part (λ p. p.mode) (λ x. Free) refl (λ x. ap (λ (p : Task). p.mode) (fresh_is x)) (λ x h. refl);
    waiting = part requests_of (λ x. []) refl (λ x. ap requests_of (fresh_is x)) (λ x h. refl);
    offers = λ g t. part_gate (λ k. member_of k.offers t) refl g ∙ member_none t;
    deal = part_gate (λ k. k.deal) refl;
    up = λ t g. part (λ p. up_list p g) (λ x. ready_if (ready_of T.moves x (start_of x) g)) (rw (same_everywhere 16 g empty3))
        (λ x. fresh_up x g)
        (λ x h. rw (same_everywhere 16 g empty3) (absent x g h (ready_of T.moves x (start_of x) g) refl)) t;
    down = λ g t. part_gate (λ k. down_list k t) (rw (same_everywhere 16 t empty1)) g ∙ rw (same_everywhere 16 t empty1);
    across = λ a b. part (λ p. across_list p b) (λ x. []) (rw (same_everywhere 16 b empty1))
        (λ x. ap (λ (p : Task). across_list p b) (fresh_is x) ∙ rw (same_everywhere 16 b empty1))
        (λ x h. rw (same_everywhere 16 b empty1)) a;
    log = ap (λ n. newest_first n log) all_begun.logged;
  })
    where
      absent : (x g : ℕ) → T.tasks ≤ x → (c : Bool) → ready_of T.moves x (start_of x) g ≡ c → [] ≡ ready_if c
      absent x g h true e = let y = (q.leads x (start_of x) g e).task in absurd (omega arith)
      absent x g h false e = refl

  pub fresh_invariant : (log : List ℕ) → Invariant (plan_of T) (line_of (fresh_state T) log)
  fresh_invariant log = subst (λ (y : Line). Invariant (plan_of T) y) (sym (fresh_line log)) (fresh_ok (plan_of T))
