-- A delivery at a gate keeps the invariant and is not excluded.
use Rattle.std.specs.Prelude.{Option, None, Some}
use Prim.Native.Nat.{ℕ}
use mathlib.Core.Bool.{Bool, true}
use mathlib.Core.List.{List, [], ◌∷◌}
use mathlib.Core.Logic.{◌≢◌}
use mathlib.Core.Path.{◌≡◌, refl, sym, ◌∙◌}
use Rattle.channels.specs.declared.Message.{Message}
use Rattle.channels.specs.declared.Message.TheVariants.{Ready}
use Rattle.state.specs.declared.Deal.{Deal}
use Rattle.state.specs.declared.Deal.TheVariants.{Idle, Dealing}
use Rattle.protocol.specs.Plans.{Plan}
use Rattle.protocol.specs.Lines.{Line, result}
use Rattle.protocol.specs.Steps.{ready_taken, result_taken}
use Rattle.protocol.specs.Deliveries.{dealt_if, searched_by, searched}
use Rattle.protocol.proofs.Cases.{same, diff, eq_case, eqb_diff, clash}
use Rattle.protocol.proofs.Tokens.{home, sent, in_hand}
use Rattle.protocol.proofs.Phases.{idle}
use Rattle.protocol.proofs.Invariant.{Ghost, PlanRight, Links, Meaning, NoneFits, Invariant}
use Rattle.protocol.proofs.Reading.{home_of}
use Rattle.protocol.proofs.TokenMoves.{token_to}
use Rattle.protocol.proofs.Readied.{ready_taken_ghost, ready_links, ready_meaning}
use Rattle.protocol.proofs.Ended.{dealt_vector, token_returned, result_links, result_meaning}
use Rattle.protocol.proofs.Dealt.{deal_links, deal_meaning}

module _ (P : Plan) (W : PlanRight P) where
  -- all is as between deliveries, but gate g may have to search
  module _ (s : Line) (h : Ghost) (j : Links P s h) (m : Meaning P s h) (g : ℕ) (none_in_hand : (x w t : ℕ) → h.token x ≢ in_hand w t)
      (none_waits_lem : (t : ℕ) → h.phase t ≡ idle → s.waiting t ≡ [])
      (others : (x : ℕ) → x ≢ g → h.token x ≡ home → NoneFits P (s.offers x) x) where
    rested : (h.token g ≡ home → NoneFits P (s.offers g) g) → Invariant P s
    rested here = record {
      ghost = h;
      links = j;
      meaning = m;
      none_in_hand = none_in_hand;
      none_waits_lem = none_waits_lem;
      searched = λ x k. elim (eq_case x g) [ same p f ↦ rw p (here (cc)) | diff p f ↦ others x p k ];
    }

    search_ok : Invariant P (searched P s g)
    search_ok = go (s.deal g) refl
      where
        found : (o : Option ℕ) → P.fitting g (s.offers g) ≡ o → h.token g ≡ home → Invariant P (dealt_if P s g o)
        found None e et = rested (λ _. W.fitting_none g (s.offers g) e)
        found (Some v) e et = let b = P.lowest g v in let ib = W.lowest_in g v (s.offers g) e in let low = W.lowest_low g v (s.offers g) e in record {
          ghost = token_to h g (sent v b);
          links = deal_links P s h j g v b et ib low;
          meaning = deal_meaning P s h j g v b et ib low m;
          none_in_hand = λ x w t. elim (eq_case x g) [ same p f ↦ rw f (λ z. clash (cc)) | diff p f ↦ rw f (none_in_hand x w t) ];
          none_waits_lem = none_waits_lem;
          searched = λ x. elim (eq_case x g) [ same p f ↦ rw f (λ z. clash (cc)) | diff p f ↦ rw f (others x p) ];
        }

        go : (d : Deal) → s.deal g ≡ d → Invariant P (searched_by P s g d)
        go Idle e = found (P.fitting g (s.offers g)) refl (home_of (h.token g) (sym (j.gate g).deal_is ∙ e))
        go (Dealing v) e = rested (λ k. clash (cc (j.gate g).deal_is))

  pub ready_at_gate : (s : Line) → Invariant P s → (t g : ℕ) (l : List Message) → s.up t g ≡ Ready ∷ l
      → Invariant P (searched P (ready_taken s t g l) g)
  ready_at_gate s i t g l e =
      search_ok (ready_taken s t g l) (ready_taken_ghost i.ghost t g) (ready_links P s i.ghost i.links t g l e)
      (ready_meaning P s i.ghost i.links t g l e i.meaning) g i.none_in_hand i.none_waits_lem (λ x n. rw (eqb_diff x g n) (i.searched x))

  -- a result at a gate: the gate is dealing, and the sender is in the dealt vector
  pub gate_dealing : (s : Line) → Invariant P s → (t g : ℕ) (k : Bool) (l : List Message) → s.up t g ≡ result k g ∷ l
      → (v : ℕ) × (s.deal g ≡ Dealing v) × (P.holds g v t ≡ true)
  gate_dealing s i t g k l e =
      let d = dealt_vector P s i.ghost i.links t g k l e in
      (d.0, d.1, rw (token_returned P s i.ghost i.links t g d.0 k l e d.1) at (i.links.gate g).token_right)

  pub result_at_gate : (s : Line) → Invariant P s → (t g v : ℕ) (k : Bool) (l : List Message) → s.up t g ≡ result k g ∷ l → s.deal g ≡ Dealing v
      → Invariant P (searched P (result_taken P s t g v k l) g)
  result_at_gate s i t g v k l e ev =
      search_ok (result_taken P s t g v k l) (token_to i.ghost g home) (result_links P s i.ghost i.links t g v k l e ev)
      (result_meaning P s i.ghost i.links t g v k l e ev i.meaning) g
      (λ x w y. elim (eq_case x g) [ same p f ↦ rw f (λ z. clash (cc)) | diff p f ↦ rw f (i.none_in_hand x w y) ]) i.none_waits_lem (λ x n. rw (eqb_diff x g n) (i.searched x))
