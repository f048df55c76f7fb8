-- A delivery at a task keeps the invariant and is not excluded.
use Prim.Native.Nat.{ℕ, ◌<◌}
use mathlib.Core.Bool.{Bool, true, false, cond}
use mathlib.Core.List.{List, [], ◌∷◌, ◌++◌}
use mathlib.Core.Logic.{◌≢◌}
use mathlib.Core.Path.{◌≡◌, refl, ap, ◌∙◌}
use Rattle.channels.specs.declared.Message.{Message}
use Rattle.tasks.specs.Tasks.{is_free}
use Rattle.protocol.specs.Plans.{Plan, changed}
use Rattle.protocol.specs.Lines.{Line, request, lock, result, held}
use Rattle.protocol.specs.Steps.{lock_taken, lock_taken_across, with_list, released}
use Rattle.protocol.specs.Deliveries.{handled, list_handled, locked, freed}
use Rattle.protocol.proofs.Cases.{same, diff, eq_case, eqb_same, eqb_diff, clash}
use Rattle.protocol.proofs.Tokens.{home, queued, in_hand}
use Rattle.protocol.proofs.Phases.{idle, decided}
use Rattle.protocol.proofs.Invariant.{Ghost, PlanRight, Links, Meaning, NoneFits, Busy, Invariant}
use Rattle.protocol.proofs.Reading.{free_of}
use Rattle.protocol.proofs.Fronts.{token_sent, token_passed, phase_decided}
use Rattle.protocol.proofs.TokenMoves.{token_to, token_meaning}
use Rattle.protocol.proofs.Taken.{take_links, token_taken, pass_links}
use Rattle.protocol.proofs.Listed.{enqueue_links}
use Rattle.protocol.proofs.Moved.{announced_ghost, move_links}
use Rattle.protocol.proofs.Released.{released_ghost, release_links, abort_meaning, commit_meaning}
use Rattle.protocol.proofs.Handled.{handle_ok}
use Rattle.protocol.proofs.ListHandled.{list_ok}

module _ (P : Plan) (W : PlanRight P) where
  -- a LOCK in b's hand, and all else as between deliveries
  module _ (s : Line) (h : Ghost) (j : Links P s h) (m : Meaning P s h) (g v b : ℕ) (et : h.token g ≡ in_hand v b)
      (only : (x w t : ℕ) → x ≢ g → h.token x ≢ in_hand w t)
      (none_waits_lem : (t : ℕ) → h.phase t ≡ idle → s.waiting t ≡ [])
      (searched : (x : ℕ) → h.token x ≡ home → NoneFits P (s.offers x) x) where
    abbrev longer : Line
    longer = with_list s b (s.waiting b ++ request g v ∷ [])

    held_ok : is_free (s.mode b) ≡ false → Invariant P longer
    held_ok e = record {
      ghost = token_to h g (queued v b);
      links = enqueue_links P s h j g v b et;
      meaning = token_meaning P s longer h m g (queued v b) h.passed_to refl refl refl (λ t _. refl) (λ t a. rw et at a);
      none_in_hand = λ x w t. elim (eq_case x g) [ same p f ↦ rw f (λ z. clash (cc)) | diff p f ↦ rw f (only x w t p) ];
      none_waits_lem = λ t k. elim (eq_case t b) [ same p f ↦ clash (cc (j.task b).mode_is) | diff p f ↦ rw f (none_waits_lem t k) ];
      searched = λ x. elim (eq_case x g) [ same p f ↦ rw f (λ z. clash (cc)) | diff p f ↦ rw f (searched x) ];
    }

    free_ok : is_free (s.mode b) ≡ true → Invariant P (handled P s b (request g v))
    free_ok e =
        let eb = free_of (h.phase b) (rw (j.task b).mode_is at e) in
        let n = handle_ok P W s h j m g v b et eb only in
        record {
          ghost = n.ghost;
          links = n.links;
          meaning = n.meaning;
          none_in_hand = n.none_in_hand;
          none_waits_lem = λ t k. ap (λ f. f t) n.waiting_is ∙ elim (eq_case t b)
              [ same p f ↦ none_waits_lem t (ap h.phase p ∙ eb) | diff p f ↦ none_waits_lem t (n.none_freed t p k) ];
          searched = λ x k. rw n.offers_is (searched x (n.none_home x k));
        }

    lock_ok : Invariant P (locked P s b (request g v))
    lock_ok = go (is_free (s.mode b)) refl
      where
        go : (c : Bool) → is_free (s.mode b) ≡ c → Invariant P (cond c (handled P s b (request g v)) longer)
        go true e = free_ok e
        go false e = held_ok e

  -- the LOCK of gate g at task b
  pub from_gate : (s : Line) → Invariant P s → (g b x v : ℕ) (l : List Message) → s.down g b ≡ lock x v ∷ l
      → Invariant P (locked P (lock_taken s g b) b (request x v))
  from_gate s i g b x v l e =
      let n = token_sent P s i.ghost i.links g b x v l e in
      let et = n.1 in
      rw n.0 (lock_ok (lock_taken s g b) (token_to i.ghost g (in_hand v b)) (take_links P s i.ghost i.links g v b et)
      (token_meaning P s (lock_taken s g b) i.ghost i.meaning g (in_hand v b) i.ghost.passed_to refl refl refl (λ t _. refl) (λ t a. rw et at a))
      g v b (rw eqb_same) (λ y w t p. rw (eqb_diff y g p) (i.none_in_hand y w t)) i.none_waits_lem
      (λ y. elim (eq_case y g) [ same p f ↦ rw f (λ z. clash (cc)) | diff p f ↦ rw f (i.searched y) ]))

  -- the LOCK that task a passed on, at task b
  pub from_task : (s : Line) → Invariant P s → (a b g v : ℕ) (l : List Message) → a < b → s.across a b ≡ lock g v ∷ l
      → Invariant P (locked P (lock_taken_across s a b) b (request g v))
  from_task s i a b g v l lt e =
      let h = i.ghost in
      let et = token_passed P s h i.links a b g v l lt e in
      lock_ok (lock_taken_across s a b) (token_taken h g a (in_hand v b)) (pass_links P s h i.links g v a b et)
      (token_meaning P s (lock_taken_across s a b) h i.meaning g (in_hand v b) (changed h.passed_to a _) refl refl refl (λ t _. refl) (λ t k. rw et at k))
      g v b (rw eqb_same) (λ y w t p. rw (eqb_diff y g p) (i.none_in_hand y w t)) i.none_waits_lem
      (λ y. elim (eq_case y g) [ same p f ↦ rw f (λ z. clash (cc)) | diff p f ↦ rw f (i.searched y) ])

  -- task t, freed by u's result k: its list is left to be handled
  pub freed_busy : (s : Line) (i : Invariant P s) (u t g v : ℕ) (k : Bool) → i.ghost.phase t ≡ decided g v u k
      → (h : Ghost) × Busy P (freed P s u t g k) h t × ((freed P s u t g k).waiting t ≡ s.waiting t)
  freed_busy s i u t g v true ep = (
    announced_ghost (released_ghost i.ghost t) t (P.ready t (P.target t (s.at t) g)),
    record {
      links = move_links P (released s u t) (released_ghost i.ghost t) t (P.target t (s.at t) g)
          (release_links P s i.ghost i.links g v u t true ep);
      meaning = commit_meaning P s i.ghost i.meaning g v u t ep;
      none_in_hand = i.none_in_hand;
      none_waits_lem = λ x n. rw (eqb_diff x t n) (i.none_waits_lem x);
      searched = i.searched;
    },
    refl,
  )
  freed_busy s i u t g v false ep = (
    released_ghost i.ghost t,
    record {
      links = release_links P s i.ghost i.links g v u t false ep;
      meaning = abort_meaning P s i.ghost i.links g v u t false ep i.meaning refl;
      none_in_hand = i.none_in_hand;
      none_waits_lem = λ x n. rw (eqb_diff x t n) (i.none_waits_lem x);
      searched = i.searched;
    },
    refl,
  )

  -- a result from u at task t: t is held by that gate and ready, and the invariant holds again
  pub result_at_task : (s : Line) (i : Invariant P s) (u t g : ℕ) (k : Bool) (l : List Message) → t < u → s.across u t ≡ result k g ∷ l
      → ((v : ℕ) × (s.mode t ≡ held g v) × (P.ready t (s.at t) g ≡ true)) × Invariant P (list_handled P (freed P s u t g k) t (s.waiting t))
  result_at_task s i u t g k l lt e =
      let d = phase_decided P s i.ghost i.links u t g k l lt e in
      let b = freed_busy s i u t g d.0 k d.1 in
      (facts d.0 d.1, list_ok P W (s.waiting t) (freed P s u t g k) b.0 t b.2 b.1)
    where
      facts : (v : ℕ) → i.ghost.phase t ≡ decided g v u k → (v : ℕ) × (s.mode t ≡ held g v) × (P.ready t (s.at t) g ≡ true)
      facts v ep = (v, (i.links.task t).mode_is ∙ rw ep, rw ep at (i.meaning.held_ready t))
