-- A result reaches a lower task: its message is taken and the task is Free. By COMMIT it also moves.
use Prim.Native.Nat.{ℕ, ◌<◌}
use mathlib.Core.Bool.{Bool, true, false, ◌&&◌}
use mathlib.Core.Path.{◌≡◌, refl, ◌∙◌}
use native.Mathlib.Omega.{arith}
use lib.Dec.{eqb}
use Rattle.protocol.specs.Plans.{Plan, changed}
use Rattle.protocol.specs.Lines.{Line}
use Rattle.protocol.specs.Steps.{released, moved}
use Rattle.protocol.proofs.Cases.{EqCase, same, diff, eq_case, eqb_diff, clash}
use Rattle.protocol.proofs.Phases.{idle, decided, higher_messages}
use Rattle.protocol.proofs.Invariant.{Ghost, PairAt, Links, Covered, by_ready, by_offer, by_token, by_commit, Meaning}
use Rattle.protocol.proofs.Reading.{higher_idle, higher_decided}
use Rattle.protocol.proofs.Moved.{announced_ghost}

abbrev pub released_ghost : Ghost → ℕ → Ghost
released_ghost h t = record {
  token = h.token;
  phase = changed h.phase t idle;
  passed_to = h.passed_to;
  ready_before = h.ready_before;
  ready_last = h.ready_last;
  replayed = h.replayed;
}

module _ (P : Plan) (s : Line) (h : Ghost) (j : Links P s h) (g v u t : ℕ) (k : Bool) (et : h.phase t ≡ decided g v u k) where
  t<u : t < u
  t<u = (rw et at (j.task t).phase_right).2

  higher' : (x y : ℕ) → x < y → (released s u t).across x y ≡ higher_messages y (h.passed_to x) (changed h.phase t idle x)
  higher' x y l = rw off_it (go (eq_case x t))
    where
      off_it : (eqb y t && eqb x u) ≡ false
      off_it = elim (eq_case y t) [ diff p e ↦ rw e | same p e ↦ rw (e, eqb_diff x u (λ q. let w = t<u in absurd (omega arith))) ]

      go : EqCase x t → s.across x y ≡ higher_messages y (h.passed_to x) (changed h.phase t idle x)
      go (diff p e) = rw e (j.higher x y l)
      go (same p e) = let z : h.phase x ≡ decided g v u k = cc in rw (e, higher_idle) (j.higher x y l ∙ rw (z, higher_decided))

  pair' : (y x : ℕ) → PairAt P (released s u t) (released_ghost h t) y x
  pair' y x = elim (eq_case y t) [
    | diff p e ↦ rw e (j.pair y x)
    | same p e ↦ rw e (let r = j.pair y x in let z : h.phase y ≡ decided g v u k = cc in record {
      up_is = r.up_is;
      down_is = r.down_is;
      waiting_is = r.waiting_is;
      undecided_is = rw z at r.undecided_is;
      passed_is = rw z at r.passed_is;
    })
  ]

  pub release_links : Links P (released s u t) (released_ghost h t)
  release_links = record {
    gate = j.gate;
    task = λ x. elim (eq_case x t) [ same p e ↦ rw e (record { mode_is = refl; phase_right = tt }) | diff p e ↦ rw e (j.task x) ];
    higher = higher';
    lower = λ w x l. elim (eq_case x t) [
      | diff p e ↦ rw e (j.lower w x l)
      | same p e ↦ elim (eq_case w u) [ same q f ↦ rw (e, f) | diff q f ↦ rw (e, f) (j.lower w x l ∙ simp (p, et, f)) ]
    ];
    own = λ x. elim (eq_case x t) [
      | diff p e ↦ rw e (j.own x)
      | same p e ↦ rw (e, eqb_diff x u (λ q. let w = t<u in absurd (omega arith))) (j.own x)
    ];
    pair = pair';
  }

  pub abort_meaning : Meaning P s h → k ≡ false → Meaning P (released s u t) (released_ghost h t)
  abort_meaning m ek = record {
    held_ready = λ x. elim (eq_case x t) [ same p e ↦ rw e tt | diff p e ↦ rw e (m.held_ready x) ];
    replayed_is = λ x. elim (eq_case x t) [ same p e ↦ rw e (m.replayed_is x ∙ simp (p, et, ek)) | diff p e ↦ rw e (m.replayed_is x) ];
    legal = m.legal;
    covered = λ y x r. go y x (eq_case y t) (m.covered y x r);
  }
    where
      go : (y x : ℕ) → EqCase y t → Covered P y x (s.offers x y) (h.ready_last y x) (h.token x) (h.phase y)
          → Covered P y x (s.offers x y) (h.ready_last y x) (h.token x) (changed h.phase t idle y)
      go y x (diff p e) c = rw e c
      go y x (same p e) (by_ready a) = by_ready a
      go y x (same p e) (by_offer a f) = by_offer a f
      go y x (same p e) (by_token a) = by_token a
      go y x (same p e) (by_commit a) = clash (cc)

module _ (P : Plan) (s : Line) (h : Ghost) (m : Meaning P s h) (g v u t : ℕ) (et : h.phase t ≡ decided g v u true) where
  abbrev to : ℕ
  to = P.target t (s.at t) g

  pub commit_meaning : Meaning P (moved P (released s u t) t to) (announced_ghost (released_ghost h t) t (P.ready t to))
  commit_meaning = record {
    held_ready = λ x. elim (eq_case x t) [ same p e ↦ rw e tt | diff p e ↦ rw e (m.held_ready x) ];
    replayed_is = λ x. elim (eq_case x t) [ same p e ↦ rw e (m.replayed_is x ∙ simp (p, et)) | diff p e ↦ rw e (m.replayed_is x) ];
    legal = m.legal;
    covered = λ y x. elim (eq_case y t) [ same p e ↦ rw (e, p) (λ r. by_ready (rw r)) | diff p e ↦ rw e (m.covered y x) ];
  }
