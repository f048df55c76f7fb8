-- A result at a gate: the gate is dealing, the result was its token, and the token comes home.
use Rattle.std.specs.Prelude.{None, Some}
use Prim.Native.Nat.{ℕ}
use mathlib.Core.Bool.{Bool, true, false, cond}
use mathlib.Core.List.{List, ◌∷◌}
use mathlib.Core.Path.{◌≡◌, refl, sym, ◌∙◌}
use lib.Dec.{eqb}
use Rattle.channels.specs.declared.Message.{Message}
use Rattle.state.specs.declared.Deal.TheVariants.{Dealing}
use Rattle.protocol.specs.Plans.{Plan}
use Rattle.protocol.specs.Lines.{Line, result, ready_if}
use Rattle.protocol.specs.Steps.{offers_after, result_taken}
use Rattle.protocol.proofs.Cases.{EqCase, same, diff, eq_case, and_yes, and_no, or_yes, clash}
use Rattle.protocol.proofs.Tokens.{Token, home, sent, passed, queued, in_hand, returned, result_by}
use Rattle.protocol.proofs.Invariant.{Ghost, PairLinks, Links, Covered, by_ready, by_offer, by_token, by_commit, Meaning}
use Rattle.protocol.proofs.Reading.{UpFront, a_ready, a_result, up_front, result_same, returned_of}
use Rattle.protocol.proofs.TokenMoves.{token_to}

module _ (P : Plan) (s : Line) (h : Ghost) (j : Links P s h) (t g : ℕ) (k : Bool) (rest : List Message) (em : s.up t g ≡ result k g ∷ rest) where
  pub result_behind : (result_by t (h.token g) ≡ Some k) × (rest ≡ ready_if (h.ready_last t g))
  result_behind = go k (up_front g (result_by t (h.token g)) (h.ready_before t g) (h.ready_last t g) (result k g) rest (sym (j.pair t g).up_is ∙ em))
    where
      go : (k : Bool) → UpFront g (result_by t (h.token g)) (h.ready_last t g) (result k g) rest
          → (result_by t (h.token g) ≡ Some k) × (rest ≡ ready_if (h.ready_last t g))
      go true (a_ready m e) = clash (cc)
      go false (a_ready m e) = clash (cc)
      go c (a_result d m r e) = (r ∙ rw (result_same c d g g m).0, e)

  pub dealt_vector : (v : ℕ) × (s.deal g ≡ Dealing v)
  dealt_vector = go (h.token g) refl result_behind.0
    where
      go : (x : Token) → h.token g ≡ x → result_by t x ≡ Some k → (v : ℕ) × (s.deal g ≡ Dealing v)
      go home e r = clash (cc)
      go (sent v b) e r = clash (cc)
      go (passed v a b) e r = clash (cc)
      go (queued v b) e r = clash (cc)
      go (in_hand v b) e r = clash (cc)
      go (returned v u c) e r = (v, (j.gate g).deal_is ∙ rw e)

module _ (P : Plan) (s : Line) (h : Ghost) (j : Links P s h) (t g v : ℕ) (k : Bool) (rest : List Message)
    (em : s.up t g ≡ result k g ∷ rest) (ev : s.deal g ≡ Dealing v) where
  pub token_returned : h.token g ≡ returned v t k
  token_returned = returned_of t v k (h.token g) (result_behind P s h j t g k rest em).0 (sym (j.gate g).deal_is ∙ ev)

  pub result_links : Links P (result_taken P s t g v k rest) (token_to h g home)
  result_links = record {
    gate = λ x. elim (eq_case x g) [ same p e ↦ rw e (record { deal_is = refl; token_right = tt }) | diff p e ↦ rw e (j.gate x) ];
    task = j.task;
    higher = j.higher;
    lower = j.lower;
    own = j.own;
    pair = λ y x. elim (eq_case x g) [ diff p e ↦ rw e (j.pair y x) | same p e ↦ rw (e, p) (here y (eq_case y t)) ];
  }
    where
      here : (y : ℕ) → EqCase y t
          → PairLinks P y g (s.waiting y) (cond (eqb y t) rest (s.up y g)) (s.down g y) home (h.phase y) (h.passed_to y)
          (h.ready_before y g) (h.ready_last y g)
      here y c = let q = j.pair y g in record {
        up_is = elim c [ same p e ↦ rw (e, p) (result_behind P s h j t g k rest em).1 | diff p e ↦ rw e (q.up_is ∙ simp (token_returned, e)) ];
        down_is = rw token_returned at q.down_is;
        waiting_is = rw token_returned at q.waiting_is;
        undecided_is = rw token_returned at q.undecided_is;
        passed_is = rw token_returned at q.passed_is;
      }

  pub result_meaning : Meaning P s h → Meaning P (result_taken P s t g v k rest) (token_to h g home)
  result_meaning m = record {
    held_ready = m.held_ready;
    replayed_is = m.replayed_is;
    legal = m.legal;
    covered = λ y x r. elim (eq_case x g) [
      | diff p e ↦ rw e (m.covered y x r)
      | same p e ↦ rw (e, p) (here y (eq_case y t) k refl (rw (p, token_returned) at (m.covered y x r)))
    ];
  }
    where
      -- t itself was covered by a READY or a COMMIT; who was covered by an ABORT on its way is in the offers again
      here : (y : ℕ) → EqCase y t → (c : Bool) → k ≡ c → Covered P y g (s.offers g y) (h.ready_last y g) (returned v t k) (h.phase y)
          → Covered P y g (offers_after P g v c (s.offers g) t y) (h.ready_last y g) home (h.phase y)
      here y q c f (by_ready a) = by_ready a
      here y q c f (by_commit a) = by_commit a
      here y (same p e) c f (by_offer a b) = clash (let z : Some k ≡ None = rw e at b in cc)
      here y (same p e) true f (by_token a) = clash (cc)
      here y (same p e) false f (by_token a) = clash (let z : false ≡ true = simp (f, e, and_no) at a in sym z)
      here y (diff p e) true f (by_offer a b) = by_offer (simp e a) refl
      here y (diff p e) false f (by_offer a b) = by_offer (simp (e, a)) refl
      here y (diff p e) true f (by_token a) = clash (cc)
      here y (diff p e) false f (by_token a) = by_offer (let z : P.holds g v y ≡ true = simp (f, e, and_yes) at a in simp (e, z, or_yes)) refl
