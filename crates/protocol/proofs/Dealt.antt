-- An Idle gate deals a vector: its LOCK goes to the vector's lowest task b.
use Prim.Native.Nat.{ℕ, ◌≤◌}
use mathlib.Core.Bool.{Bool, true, false, cond, ◌&&◌, not}
use mathlib.Core.List.{[], ◌∷◌, ◌++◌}
use mathlib.Core.Path.{◌≡◌, refl, ◌∙◌}
use lib.Dec.{eqb}
use Rattle.protocol.specs.Plans.{Plan}
use Rattle.protocol.specs.Lines.{Line, lock}
use Rattle.protocol.specs.Steps.{dealt}
use Rattle.protocol.proofs.Cases.{EqCase, same, diff, eq_case, and_yes, clash}
use Rattle.protocol.proofs.Tokens.{home, sent}
use Rattle.protocol.proofs.Invariant.{Ghost, PairLinks, Links, Covered, by_ready, by_offer, by_token, by_commit, Meaning}
use Rattle.protocol.proofs.TokenMoves.{token_to}

module _ (P : Plan) (s : Line) (h : Ghost) (j : Links P s h) (g v b : ℕ) (et : h.token g ≡ home)
    (ib : P.holds g v b ≡ true) (low : (t : ℕ) → P.holds g v t ≡ true → b ≤ t) where
  pub deal_links : Links P (dealt P s g v b) (token_to h g (sent v b))
  deal_links = record {
    gate = λ x. elim (eq_case x g) [ same p e ↦ rw (e, p) (record { deal_is = refl; token_right = (ib, low) }) | diff p e ↦ rw e (j.gate x) ];
    task = j.task;
    higher = j.higher;
    lower = j.lower;
    own = j.own;
    pair = λ y x. elim (eq_case x g) [ diff p e ↦ rw e (j.pair y x) | same p e ↦ rw (e, p) (here y (eq_case y b)) ];
  }
    where
      here : (y : ℕ) → EqCase y b
          → PairLinks P y g (s.waiting y) (s.up y g) (cond (eqb y b) (s.down g b ++ lock g v ∷ []) (s.down g y)) (sent v b)
          (h.phase y) (h.passed_to y) (h.ready_before y g) (h.ready_last y g)
      here y c = let q = j.pair y g in record {
        up_is = rw et at q.up_is;
        down_is = elim c [ same p e ↦ rw e (simp ((j.pair b g).down_is, et)) | diff p e ↦ rw e (q.down_is ∙ rw et) ];
        waiting_is = rw et at q.waiting_is;
        undecided_is = rw et at q.undecided_is;
        passed_is = rw et at q.passed_is;
      }

  pub deal_meaning : Meaning P s h → Meaning P (dealt P s g v b) (token_to h g (sent v b))
  deal_meaning m = record {
    held_ready = m.held_ready;
    replayed_is = m.replayed_is;
    legal = m.legal;
    covered = λ y x r. elim (eq_case x g) [
      | diff p e ↦ rw e (m.covered y x r)
      | same p e ↦ rw (e, p) (here y (P.holds g v y) refl (rw (p, et) at (m.covered y x r)))
    ];
  }
    where
      -- the token covers the tasks of the vector, and the others keep their offer
      here : (y : ℕ) (c : Bool) → P.holds g v y ≡ c → Covered P y g (s.offers g y) (h.ready_last y g) home (h.phase y)
          → Covered P y g (s.offers g y && not c) (h.ready_last y g) (sent v b) (h.phase y)
      here y true e c = by_token e
      here y false e (by_ready a) = by_ready a
      here y false e (by_offer a f) = by_offer (rw and_yes a) refl
      here y false e (by_token a) = clash (cc)
      here y false e (by_commit a) = by_commit a
