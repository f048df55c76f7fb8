-- An idle task b, ready at gate g, is held and passes the LOCK in hand on to the vector's next higher task c.
use Rattle.std.specs.Prelude.{Some}
use Prim.Native.Nat.{ℕ, ◌<◌, ◌≤◌}
use mathlib.Core.Bool.{Bool, true, false, ◌&&◌}
use mathlib.Core.Logic.{◌≢◌}
use mathlib.Core.Path.{◌≡◌, refl, sym, ◌∙◌}
use native.Mathlib.Omega.{arith}
use lib.Dec.{eqb, ltb}
use borrow.Author.Tests.{ltb-true, ltb-false, lt-ltb, le-ltb}
use Rattle.protocol.specs.Plans.{Plan, below, changed}
use Rattle.protocol.specs.Lines.{Line}
use Rattle.protocol.specs.Steps.{forwarded}
use Rattle.protocol.proofs.Cases.{EqCase, same, diff, eq_case, eqb_same, eqb_diff, and_no, clash}
use Rattle.protocol.proofs.Tokens.{passed, in_hand}
use Rattle.protocol.proofs.Phases.{idle, undecided, lower_messages}
use Rattle.protocol.proofs.Invariant.{Ghost, PairBy, PairAt, Links, Covered, by_ready, by_offer, by_token, by_commit, Meaning}
use Rattle.protocol.proofs.Reading.{higher_idle}
use Rattle.protocol.proofs.TokenMoves.{covered_moved}

abbrev pub forwarded_ghost : Ghost → ℕ → ℕ → ℕ → ℕ → Ghost
forwarded_ghost h g v b c = record {
  token = changed h.token g (passed v b c);
  phase = changed h.phase b (undecided g v);
  passed_to = changed h.passed_to b (Some c);
  ready_before = h.ready_before;
  ready_last = h.ready_last;
  replayed = h.replayed;
}

module _ (P : Plan) (s : Line) (h : Ghost) (j : Links P s h) (g v b c : ℕ) (et : h.token g ≡ in_hand v b) (eb : h.phase b ≡ idle)
    (ic : P.holds g v c ≡ true) (b<c : b < c) (next : (t : ℕ) → P.holds g v t ≡ true → b < t → c ≤ t) where
  ib : P.holds g v b ≡ true
  ib = rw et at (j.gate g).token_right

  -- nothing of the vector lies between b and c
  same_below : (t : ℕ) → t ≢ b → below P g v b t ≡ below P g v c t
  same_below t n = go (P.holds g v t) refl (ltb t b) refl
    where
      go : (i : Bool) → P.holds g v t ≡ i → (d : Bool) → ltb t b ≡ d → (i && d) ≡ (i && ltb t c)
      go false e d f = refl
      go true e true f = sym (lt-ltb t c (let l = ltb-true t b f in omega arith))
      go true e false f = sym (le-ltb t c (let l = ltb-false t b f in let w : b < t = omega arith in next t e w))

  lower' : (u x : ℕ) → x < u → (forwarded s g v b c).across u x ≡ lower_messages u (changed h.phase b (undecided g v) x)
  lower' u x l = rw off_it (go (eq_case x b))
    where
      off_it : (eqb x c && eqb u b) ≡ false
      off_it = elim (eq_case x c) [ diff p e ↦ rw e | same p e ↦ rw (e, eqb_diff u b (λ q. absurd (omega arith))) ]

      go : EqCase x b → s.across u x ≡ lower_messages u (changed h.phase b (undecided g v) x)
      go (diff p e) = rw e (j.lower u x l)
      go (same p e) = rw e (j.lower u x l ∙ rw (p, eb))

  pair' : (t x : ℕ) → PairAt P (forwarded s g v b c) (forwarded_ghost h g v b c) t x
  pair' t x = elim (eq_case x g) [ same p e ↦ rw (e, p) (here (eq_case t b)) | diff p e ↦ rw e (other e (eq_case t b)) ]
    where
      q : PairAt P s h t g
      q = j.pair t g

      here : EqCase t b
          → PairBy P s h t g (passed v b c) (changed h.phase b (undecided g v) t) (changed h.passed_to b (Some c) t)
      here (same p e) = rw e (record {
        up_is = rw et at q.up_is;
        down_is = rw et at q.down_is;
        waiting_is = rw et at q.waiting_is;
        undecided_is = simp (eqb_same, p, ib, lt-ltb b c b<c);
        passed_is = simp (eqb_same, e);
      })
      here (diff p e) = rw e (record {
        up_is = rw et at q.up_is;
        down_is = rw et at q.down_is;
        waiting_is = rw et at q.waiting_is;
        undecided_is = rw (← (same_below t p)) (rw et at q.undecided_is);
        passed_is = simp e (rw et at q.passed_is);
      })

      other : eqb x g ≡ false → EqCase t b
          → PairBy P s h t x (h.token x) (changed h.phase b (undecided g v) t) (changed h.passed_to b (Some c) t)
      other f (diff p e) = rw e (j.pair t x)
      other f (same p e) = let r = j.pair t x in let z : h.phase t ≡ idle = cc in rw e (record {
        up_is = r.up_is;
        down_is = r.down_is;
        waiting_is = r.waiting_is;
        undecided_is = rw f (rw z at r.undecided_is);
        passed_is = rw f (rw z at r.passed_is);
      })

  pub forward_links : Links P (forwarded s g v b c) (forwarded_ghost h g v b c)
  forward_links = record {
    gate = λ x. elim (eq_case x g) [
      | same p e ↦ rw (e, p) (record { deal_is = (j.gate g).deal_is ∙ rw et; token_right = (ic, b<c) })
      | diff p e ↦ rw e (j.gate x)
    ];
    task = λ t. elim (eq_case t b) [ same p e ↦ rw e (record { mode_is = refl; phase_right = tt }) | diff p e ↦ rw e (j.task t) ];
    higher = λ x y l. elim (eq_case x b) [
      | diff p e ↦ simp (e, and_no) (j.higher x y l)
      | same p e ↦ elim (eq_case y c) [
        | same q f ↦ simp (e, f, j.higher b c b<c, eb, higher_idle)
        | diff q f ↦ simp (e, f) (j.higher x y l ∙ rw (p, eb) (higher_idle y (h.passed_to b)))
      ]
    ];
    lower = lower';
    own = λ t. elim (eq_case t c) [
      | diff p e ↦ rw e (j.own t)
      | same p e ↦ rw (e, eqb_diff t b (λ q. absurd (omega arith))) (j.own t)
    ];
    pair = pair';
  }

  pub forward_meaning : Meaning P s h → P.ready b (s.at b) g ≡ true → Meaning P (forwarded s g v b c) (forwarded_ghost h g v b c)
  forward_meaning m rb = record {
    held_ready = λ t. elim (eq_case t b) [ same p e ↦ rw (e, p) rb | diff p e ↦ rw e (m.held_ready t) ];
    replayed_is = λ t. elim (eq_case t b) [ same p e ↦ rw e (m.replayed_is t ∙ rw (p, eb)) | diff p e ↦ rw e (m.replayed_is t) ];
    legal = m.legal;
    covered = λ t x r. covered_moved P t g x (s.offers x t) (h.ready_last t x) h.token (passed v b c) (changed h.phase b (undecided g v) t) (λ _. refl) (λ a. rw et at a)
        (still t x (eq_case t b) (m.covered t x r));
  }
    where
      still : (t x : ℕ) → EqCase t b → Covered P t x (s.offers x t) (h.ready_last t x) (h.token x) (h.phase t)
          → Covered P t x (s.offers x t) (h.ready_last t x) (h.token x) (changed h.phase b (undecided g v) t)
      still t x (diff p e) k = rw e k
      still t x (same p e) (by_ready a) = by_ready a
      still t x (same p e) (by_offer a f) = by_offer a f
      still t x (same p e) (by_token a) = by_token a
      still t x (same p e) (by_commit a) = clash (cc)
