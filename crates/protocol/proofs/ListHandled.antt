-- A task that became Free handles its waiting list from the front, for as long as it is Free.
use Prim.Native.Nat.{ℕ}
use mathlib.Core.Bool.{Bool, true, false, cond}
use mathlib.Core.List.{List, [], ◌∷◌}
use mathlib.Core.Path.{◌≡◌, refl, ap, ◌∙◌}
use Rattle.channels.specs.declared.Request.{Request}
use Rattle.tasks.specs.Tasks.{is_free}
use Rattle.protocol.specs.Plans.{Plan}
use Rattle.protocol.specs.Lines.{Line}
use Rattle.protocol.specs.Steps.{with_list}
use Rattle.protocol.specs.Deliveries.{handled, list_handled}
use Rattle.protocol.proofs.Cases.{EqCase, same, diff, eq_case, eqb_same, eqb_diff, clash}
use Rattle.protocol.proofs.Tokens.{home, queued, in_hand, vectors_of}
use Rattle.protocol.proofs.Phases.{idle}
use Rattle.protocol.proofs.Invariant.{Ghost, PlanRight, Meaning, Busy, Invariant}
use Rattle.protocol.proofs.Reading.{free_of, queued_of}
use Rattle.protocol.proofs.TokenMoves.{token_to, token_meaning}
use Rattle.protocol.proofs.Listed.{unwait_links}
use Rattle.protocol.proofs.Handled.{Step, handle_ok}

module _ (P : Plan) (W : PlanRight P) where
  -- one request of b's list
  pub front_handled : (s : Line) (h : Ghost) (b : ℕ) (r : Request) (l : List Request) → s.waiting b ≡ r ∷ l → Busy P s h b → h.phase b ≡ idle
      → (h' : Ghost) × Busy P (handled P (with_list s b l) b r) h' b × ((handled P (with_list s b l) b r).waiting b ≡ l)
  front_handled s h b r l ew y eb = (n.ghost, busy, ap (λ f. f b) n.waiting_is ∙ rw eqb_same)
    where
      g : ℕ
      g = r.gate.0

      v : ℕ
      v = r.vector

      taken : Ghost
      taken = token_to h g (in_hand v b)

      et : h.token g ≡ queued v b
      et = (queued_of b v (h.token g) (vectors_of g l) (simp (ew, eqb_same) at (y.links.pair b g).waiting_is)).0

      meant : Meaning P (with_list s b l) taken
      meant = token_meaning P s (with_list s b l) h y.meaning g (in_hand v b) h.passed_to refl refl refl (λ t _. refl) (λ t a. rw et at a)

      n : Step P (with_list s b l) (handled P (with_list s b l) b r) taken b
      n = handle_ok P W (with_list s b l) taken (unwait_links P s h y.links g v b l ew) meant g v b (rw eqb_same) eb
          (λ x w t p. rw (eqb_diff x g p) (y.none_in_hand x w t))

      was_home : (x : ℕ) → n.ghost.token x ≡ home → h.token x ≡ home
      was_home x e = go (eq_case x g) (n.none_home x e)
        where
          go : EqCase x g → taken.token x ≡ home → h.token x ≡ home
          go (same p f) k = clash (let z : in_hand v b ≡ home = rw f at k in cc)
          go (diff p f) k = rw f at k

      busy : Busy P (handled P (with_list s b l) b r) n.ghost b
      busy = record {
        links = n.links;
        meaning = n.meaning;
        none_in_hand = n.none_in_hand;
        none_waits_lem = λ t p e. ap (λ f. f t) n.waiting_is ∙ rw (eqb_diff t b p) (y.none_waits_lem t p (n.none_freed t p e));
        searched = λ x e. rw n.offers_is (y.searched x (was_home x e));
      }

  -- b busy with nothing more to handle: its list is empty, or it is Held
  rested : (s : Line) (h : Ghost) (b : ℕ) → Busy P s h b → (h.phase b ≡ idle → s.waiting b ≡ []) → Invariant P s
  rested s h b y own = record {
    ghost = h;
    links = y.links;
    meaning = y.meaning;
    none_in_hand = y.none_in_hand;
    none_waits_lem = λ t e. elim (eq_case t b) [ same p f ↦ ap s.waiting p ∙ own (cc) | diff p f ↦ y.none_waits_lem t p e ];
    searched = y.searched;
  }

  pub list_ok : (l : List Request) (s : Line) (h : Ghost) (b : ℕ) → s.waiting b ≡ l → Busy P s h b → Invariant P (list_handled P s b l)
  list_ok [] s h b ew y = rested s h b y (λ _. ew)
  list_ok (r ∷ l) s h b ew y = go (λ s₂ h₂ a d. list_ok l s₂ h₂ b a d) (is_free (s.mode b)) refl
    where
      go : ((s₂ : Line) (h₂ : Ghost) → s₂.waiting b ≡ l → Busy P s₂ h₂ b → Invariant P (list_handled P s₂ b l)) → (c : Bool) → is_free (s.mode b) ≡ c
          → Invariant P (cond c (list_handled P (handled P (with_list s b l) b r) b l) s)
      go rec true e =
          let o = front_handled s h b r l ew y (free_of (h.phase b) (rw (y.links.task b).mode_is at e)) in
          rec _ o.0 o.2 o.1
      go rec false e = rested s h b y (λ q. clash (cc (y.links.task b).mode_is))
