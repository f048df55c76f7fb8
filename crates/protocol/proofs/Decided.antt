-- An idle task u with the token in hand ends the negotiation: its result k goes to each lower task and to the gate.
use Rattle.std.specs.Prelude.{None, Some}
use Prim.Native.Nat.{ℕ, ◌<◌}
use mathlib.Core.Bool.{Bool, true, false, cond, ◌&&◌}
use mathlib.Core.List.{[], ◌∷◌, ◌++◌}
use mathlib.Core.Path.{◌≡◌, refl, ◌∙◌}
use native.Mathlib.Omega.{arith}
use lib.Dec.{eqb}
use borrow.Author.Tests.{ltb-true, le-ltb}
use Rattle.std.proofs.lemmas.Bool.{and_parts}
use Rattle.protocol.specs.Plans.{Plan, below, changed, changed_to}
use Rattle.protocol.specs.Lines.{Line, result}
use Rattle.protocol.specs.Steps.{result_sent}
use Rattle.protocol.proofs.Cases.{EqCase, same, diff, eq_case, eqb_same, and_yes, and_no, clash}
use Rattle.protocol.proofs.Tokens.{in_hand, returned, up_messages}
use Rattle.protocol.proofs.Phases.{idle, undecided, decided, higher_messages, lower_messages, commits, HeldReady, replay_of}
use Rattle.protocol.proofs.Invariant.{Ghost, TaskLinks, PairLinks, PairBy, PairAt, Links, Covered, by_ready, by_offer, by_token, by_commit, Meaning}
use Rattle.protocol.proofs.Reading.{undecided_of}

abbrev pub decided_ghost : Plan → Ghost → ℕ → ℕ → ℕ → Bool → Ghost
decided_ghost P h g v u k = record {
  token = changed h.token g (returned v u k);
  phase = λ t. cond (below P g v u t) (decided g v u k) (h.phase t);
  passed_to = h.passed_to;
  ready_before = changed_to h.ready_before u g (h.ready_last u g);
  ready_last = changed_to h.ready_last u g false;
  replayed = h.replayed;
}

module _ (P : Plan) (s : Line) (h : Ghost) (j : Links P s h) (g v u : ℕ) (k : Bool) (et : h.token g ≡ in_hand v u) (eu : h.phase u ≡ idle) where
  -- the lower tasks of the vector are held by g with no decision
  pub below_undecided : (t : ℕ) → below P g v u t ≡ true → h.phase t ≡ undecided g v
  below_undecided t e = undecided_of g v (h.phase t) ((j.pair t g).undecided_is ∙ simp (et, e))

  pub not_below_itself : below P g v u u ≡ false
  not_below_itself = simp (le-ltb u u (omega arith), and_no)

  task' : (t : ℕ) (c : Bool) → below P g v u t ≡ c → TaskLinks P t (s.mode t) (cond c (decided g v u k) (h.phase t))
  task' t true e = record {
    mode_is = (j.task t).mode_is ∙ rw (below_undecided t e);
    phase_right = ((and_parts _ _ e).0, rw et at (j.gate g).token_right, ltb-true _ _ ((and_parts (P.holds g v t) _ e).1));
  }
  task' t false e = j.task t

  higher' : (a b : ℕ) → a < b → (result_sent P s g v u k).across a b ≡ higher_messages b (h.passed_to a) ((decided_ghost P h g v u k).phase a)
  higher' a b l = rw off_it (j.higher a b l ∙ go (below P g v u a) refl)
    where
      off_it : (eqb a u && below P g v u b) ≡ false
      off_it = elim (eq_case a u) [ same p q ↦ simp (q, le-ltb b u (omega arith), and_no) | diff p q ↦ rw q ]

      nobody : below P g v u a ≡ true → h.passed_to a ≡ None
      nobody e = simp (below_undecided a e, eqb_same, et) at (j.pair a g).passed_is

      go : (c : Bool) → below P g v u a ≡ c
          → higher_messages b (h.passed_to a) (h.phase a) ≡ higher_messages b (h.passed_to a) (cond c (decided g v u k) (h.phase a))
      go true e = rw (nobody e)
      go false e = refl

  lower' : (w a : ℕ) → a < w → (c : Bool) → below P g v u a ≡ c
      → cond (eqb w u && c) (s.across w a ++ result k g ∷ []) (s.across w a) ≡ lower_messages w (cond c (decided g v u k) (h.phase a))
  lower' w a l true e = rw (j.lower w a l, below_undecided a e) (rw and_yes)
  lower' w a l false e = rw and_no (j.lower w a l)

  own' : (t : ℕ) → (result_sent P s g v u k).across t t ≡ []
  own' t = elim (eq_case t u) [ diff p e ↦ rw e (j.own t) | same p e ↦ rw (e, p) (simp not_below_itself (j.own u)) ]

  pair' : (t x : ℕ) → PairAt P (result_sent P s g v u k) (decided_ghost P h g v u k) t x
  pair' t x = elim (eq_case x g) [ same p e ↦ rw (e, p) (here (below P g v u t) refl) | diff p e ↦ rw e (other (below P g v u t) refl e) ]
    where
      up_here : cond (eqb t u) (s.up u g ++ result k g ∷ []) (s.up t g)
          ≡ up_messages g (cond (eqb t u) (Some k) None) (cond (eqb t u) (h.ready_last u g) (h.ready_before t g)) (cond (eqb t u) false (h.ready_last t g))
      up_here = elim (eq_case t u) [ same q f ↦ rw f (simp ((j.pair u g).up_is, et)) | diff q f ↦ rw f (simp ((j.pair t g).up_is, et)) ]

      here : (c : Bool) → below P g v u t ≡ c
          → PairLinks P t g (s.waiting t) (cond (eqb t u) (s.up u g ++ result k g ∷ []) (s.up t g)) (s.down g t) (returned v u k)
          (cond c (decided g v u k) (h.phase t)) (h.passed_to t)
          (cond (eqb t u) (h.ready_last u g) (h.ready_before t g)) (cond (eqb t u) false (h.ready_last t g))
      here true f = let q = j.pair t g in record {
        up_is = up_here;
        down_is = rw et at q.down_is;
        waiting_is = rw et at q.waiting_is;
        undecided_is = refl;
        passed_is = refl;
      }
      here false f = let q = j.pair t g in record {
        up_is = up_here;
        down_is = rw et at q.down_is;
        waiting_is = rw et at q.waiting_is;
        undecided_is = simp (et, f) at q.undecided_is;
        passed_is = rw et at q.passed_is;
      }

      other : (c : Bool) → below P g v u t ≡ c → eqb x g ≡ false
          → PairBy P s h t x (h.token x) (cond c (decided g v u k) (h.phase t)) (h.passed_to t)
      other true f e = let q = j.pair t x in record {
        up_is = q.up_is;
        down_is = q.down_is;
        waiting_is = q.waiting_is;
        undecided_is = simp (below_undecided t f, e) at q.undecided_is;
        passed_is = simp (below_undecided t f, e) at q.passed_is;
      }
      other false f e = j.pair t x

  pub decide_links : Links P (result_sent P s g v u k) (decided_ghost P h g v u k)
  decide_links = record {
    gate = λ x. elim (eq_case x g) [
      | same p e ↦ rw (e, p) (record { deal_is = (j.gate g).deal_is ∙ rw et; token_right = rw et at (j.gate g).token_right })
      | diff p e ↦ rw e (j.gate x)
    ];
    task = λ t. task' t (below P g v u t) refl;
    higher = higher';
    lower = λ w a l. lower' w a l (below P g v u a) refl;
    own = own';
    pair = pair';
  }

  -- Held before, held after
  pub decide_held : Meaning P s h → (t : ℕ) (c : Bool) → below P g v u t ≡ c → HeldReady P t (s.at t) (cond c (decided g v u k) (h.phase t))
  decide_held m t true e = rw (below_undecided t e) at (m.held_ready t)
  decide_held m t false e = m.held_ready t

  -- a refusal: u is not ready at g
  pub refuse_meaning : Meaning P s h → k ≡ false → P.ready u (s.at u) g ≡ false → Meaning P (result_sent P s g v u k) (decided_ghost P h g v u k)
  refuse_meaning m ek nr = record {
    held_ready = λ t. decide_held m t (below P g v u t) refl;
    replayed_is = λ t. m.replayed_is t ∙ replay' t (below P g v u t) refl;
    legal = m.legal;
    covered = λ t x r. elim (eq_case x g) [ same p e ↦ here t x r p e (eq_case t u) | diff p e ↦ elsewhere t x e (m.covered t x r) ];
  }
    where
      replay' : (t : ℕ) (c : Bool) → below P g v u t ≡ c
          → replay_of P t (s.at t) (h.phase t) ≡ replay_of P t (s.at t) (cond c (decided g v u k) (h.phase t))
      replay' t true e = rw (below_undecided t e, ek)
      replay' t false e = refl

      keep : (t : ℕ) (c : Bool) → below P g v u t ≡ c → commits (h.phase t) ≡ true → commits (cond c (decided g v u k) (h.phase t)) ≡ true
      keep t true e a = clash (cc (below_undecided t e))
      keep t false e a = a

      Goal : ℕ → ℕ → Type 0
      Goal t x = Covered P t x (s.offers x t) ((decided_ghost P h g v u k).ready_last t x) ((decided_ghost P h g v u k).token x) ((decided_ghost P h g v u k).phase t)

      elsewhere : (t x : ℕ) → eqb x g ≡ false → Covered P t x (s.offers x t) (h.ready_last t x) (h.token x) (h.phase t) → Goal t x
      elsewhere t x e (by_ready a) = by_ready (rw e a)
      elsewhere t x e (by_offer a b) = by_offer a (rw e b)
      elsewhere t x e (by_token a) = by_token (rw e a)
      elsewhere t x e (by_commit a) = by_commit (keep t (below P g v u t) refl a)

      here : (t x : ℕ) → P.ready t (s.at t) x ≡ true → x ≡ g → eqb x g ≡ true → EqCase t u → Goal t x
      here t x r p e (same q f) = clash (cc)
      here t x r p e (diff q f) = elim (m.covered t x r) [
        | by_ready a ↦ by_ready (simp (e, f) a)
        | by_offer a b ↦ by_offer a (simp (e, f))
        | by_token a ↦ by_token (rw (e, p) (simp (ek, f, and_yes) (simp (p, et) at a)))
        | by_commit a ↦ by_commit (keep t (below P g v u t) refl a)
      ]
