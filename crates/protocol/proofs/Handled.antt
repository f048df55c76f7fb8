-- An idle task handles the lock request in its hand: refuses, forwards or fires.
use Rattle.std.specs.Prelude.{Option, None, Some}
use Prim.Native.Nat.{ℕ}
use mathlib.Core.Bool.{Bool, true, false, cond}
use mathlib.Core.Logic.{◌≢◌}
use mathlib.Core.Path.{◌≡◌, refl}
use Rattle.protocol.specs.Plans.{Plan, below, changed}
use Rattle.protocol.specs.Lines.{Line, request}
use Rattle.protocol.specs.Deliveries.{accepted, handled_by, handled}
use Rattle.protocol.proofs.Cases.{same, diff, eq_case, eqb_diff, clash}
use Rattle.protocol.proofs.Tokens.{Token, home, passed, in_hand, returned}
use Rattle.protocol.proofs.Phases.{idle, decided}
use Rattle.protocol.proofs.Invariant.{Ghost, PlanRight, Links, Meaning}
use Rattle.protocol.proofs.Forwarded.{forwarded_ghost, forward_links, forward_meaning}
use Rattle.protocol.proofs.Decided.{decided_ghost, decide_links, refuse_meaning}
use Rattle.protocol.proofs.Fired.{fired_ghost, fire_links, fire_meaning}

-- what b's handling keeps: no gate's token comes home by it, no other task is freed, and no list or offer changes
pub record Step (P : Plan) (s s' : Line) (h : Ghost) (b : ℕ) : Type 0 where
  pub ghost : Ghost
  pub links : Links P s' ghost
  pub meaning : Meaning P s' ghost
  pub none_in_hand : (g v t : ℕ) → ghost.token g ≢ in_hand v t
  pub none_home : (g : ℕ) → ghost.token g ≡ home → h.token g ≡ home
  pub none_freed : (t : ℕ) → t ≢ b → ghost.phase t ≡ idle → h.phase t ≡ idle
  pub waiting_is : s'.waiting ≡ s.waiting
  pub offers_is : s'.offers ≡ s.offers

module _ (P : Plan) (W : PlanRight P) (s : Line) (h : Ghost) (j : Links P s h) (m : Meaning P s h) (g v b : ℕ)
    (et : h.token g ≡ in_hand v b) (eb : h.phase b ≡ idle)
    (only : (x w t : ℕ) → x ≢ g → h.token x ≢ in_hand w t) where
  not_in_hand : (new : Token) → ((w t : ℕ) → new ≢ in_hand w t) → (x w t : ℕ) → changed h.token g new x ≢ in_hand w t
  not_in_hand new n x w t = elim (eq_case x g) [ same p e ↦ rw e (n w t) | diff p e ↦ rw e (only x w t p) ]

  not_home : (new : Token) → new ≢ home → (x : ℕ) → changed h.token g new x ≡ home → h.token x ≡ home
  not_home new n x = elim (eq_case x g) [ same p e ↦ rw e (λ q. absurd (n q)) | diff p e ↦ rw e (λ q. q) ]

  not_freed : (k : Bool) (t : ℕ) → (decided_ghost P h g v b k).phase t ≡ idle → h.phase t ≡ idle
  not_freed k t = go (below P g v b t)
    where
      go : (c : Bool) → cond c (decided g v b k) (h.phase t) ≡ idle → h.phase t ≡ idle
      go true e = clash (cc)
      go false e = e

  accept_ok : P.ready b (s.at b) g ≡ true → (o : Option ℕ) → P.next_above g v b ≡ o → Step P s (accepted P s g v b o) h b
  accept_ok e (Some c) f = let n = W.next_some g v b c f in record {
    ghost = forwarded_ghost h g v b c;
    links = forward_links P s h j g v b c et eb n.0 n.1 n.2;
    meaning = forward_meaning P s h j g v b c et eb n.0 n.1 n.2 m e;
    none_in_hand = not_in_hand (passed v b c) (λ w t q. clash (cc));
    none_home = not_home (passed v b c) (λ q. clash (cc));
    none_freed = λ t p. rw (eqb_diff t b p) (λ q. q);
    waiting_is = refl;
    offers_is = refl;
  }
  accept_ok e None f = record {
    ghost = fired_ghost P s h g v b;
    links = fire_links P s h j m g v b et eb e (W.next_none g v b f);
    meaning = fire_meaning P s h j m g v b et eb e (W.next_none g v b f);
    none_in_hand = not_in_hand (returned v b true) (λ w t q. clash (cc));
    none_home = not_home (returned v b true) (λ q. clash (cc));
    none_freed = λ t _. not_freed true t;
    waiting_is = refl;
    offers_is = refl;
  }

  pub handle_ok : Step P s (handled P s b (request g v)) h b
  handle_ok = go (P.ready b (s.at b) g) refl
    where
      go : (c : Bool) → P.ready b (s.at b) g ≡ c → Step P s (handled_by P s g v b c) h b
      go true e = accept_ok e (P.next_above g v b) refl
      go false e = record {
        ghost = decided_ghost P h g v b false;
        links = decide_links P s h j g v b false et eb;
        meaning = refuse_meaning P s h j g v b false et eb m refl e;
        none_in_hand = not_in_hand (returned v b false) (λ w t q. clash (cc));
        none_home = not_home (returned v b false) (λ q. clash (cc));
        none_freed = λ t _. not_freed false t;
        waiting_is = refl;
        offers_is = refl;
      }
