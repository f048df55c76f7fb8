-- The vector's highest task, ready, fires it: the entry, COMMIT to all, and its own move.
use Prim.Native.Nat.{ℕ, ◌<◌, ◌≤◌}
use mathlib.Core.Bool.{Bool, true, false, cond, ◌&&◌}
use mathlib.Core.Logic.{◌≢◌}
use mathlib.Core.Path.{◌≡◌, refl, sym, ◌∙◌}
use native.Mathlib.Omega.{arith}
use lib.Dec.{eqb, ltb}
use borrow.Author.Tests.{lt-ltb}
use Rattle.std.proofs.lemmas.Bool.{and_from}
use Rattle.protocol.specs.Plans.{Plan, below, changed}
use Rattle.protocol.specs.Lines.{Line}
use Rattle.protocol.specs.Steps.{result_sent, entered, moved}
use Rattle.protocol.specs.Runs.{fire, fired}
use Rattle.protocol.proofs.Cases.{EqCase, same, diff, eq_case, and_no, clash}
use Rattle.protocol.proofs.Tokens.{in_hand, returned}
use Rattle.protocol.proofs.Phases.{idle, undecided, decided, replay_of}
use Rattle.protocol.proofs.Invariant.{Ghost, Links, Covered, by_ready, by_offer, by_token, by_commit, Meaning}
use Rattle.protocol.proofs.Decided.{decided_ghost, decide_links, below_undecided, not_below_itself, decide_held}
use Rattle.protocol.proofs.Moved.{announced_ghost, move_links}

abbrev pub with_replayed : Ghost → (ℕ → ℕ) → Ghost
with_replayed h r = record {
  token = h.token;
  phase = h.phase;
  passed_to = h.passed_to;
  ready_before = h.ready_before;
  ready_last = h.ready_last;
  replayed = r;
}

abbrev pub fired_line : Plan → Line → ℕ → ℕ → ℕ → Line
fired_line P s g v u = moved P (entered (result_sent P s g v u true) g v) u (P.target u (s.at u) g)

abbrev pub fired_ghost : Plan → Line → Ghost → ℕ → ℕ → ℕ → Ghost
fired_ghost P s h g v u =
    announced_ghost (with_replayed (decided_ghost P h g v u true) (fire P h.replayed g v)) u (P.ready u (P.target u (s.at u) g))

module _ (P : Plan) (s : Line) (h : Ghost) (j : Links P s h) (m : Meaning P s h) (g v u : ℕ) (et : h.token g ≡ in_hand v u) (eu : h.phase u ≡ idle)
    (ru : P.ready u (s.at u) g ≡ true) (high : (t : ℕ) → P.holds g v t ≡ true → t ≤ u) where
  undecided' : (t : ℕ) → below P g v u t ≡ true → h.phase t ≡ undecided g v
  undecided' = below_undecided P s h j g v u true et eu

  below_u : below P g v u u ≡ false
  below_u = not_below_itself P s h j g v u true et eu

  u_in : P.holds g v u ≡ true
  u_in = rw et at (j.gate g).token_right

  -- the vector is enabled in the replay
  enabled : (t : ℕ) → P.holds g v t ≡ true → (P.ready t (s.at t) g ≡ true) × (h.replayed t ≡ s.at t)
  enabled t i = elim (eq_case t u) [
    | same p e ↦ (rw p ru, m.replayed_is t ∙ rw (p, eu))
    | diff p e ↦ (let l : t < u = (let w = high t i in omega arith) in
        let z = undecided' t (and_from _ _ i (lt-ltb t u l)) in (rw z at (m.held_ready t), m.replayed_is t ∙ rw z))
  ]

  pub fire_links : Links P (fired_line P s g v u) (fired_ghost P s h g v u)
  fire_links =
      let d = decide_links P s h j g v u true et eu in
      move_links P (entered (result_sent P s g v u true) g v) (with_replayed (decided_ghost P h g v u true) (fire P h.replayed g v)) u (P.target u (s.at u) g)
      (record { gate = d.gate; task = d.task; higher = d.higher; lower = d.lower; own = d.own; pair = d.pair })

  pub fire_meaning : Meaning P (fired_line P s g v u) (fired_ghost P s h g v u)
  fire_meaning = record {
    held_ready = λ t. elim (eq_case t u) [
      | same p e ↦ rw (e, p, below_u, eu) tt
      | diff p e ↦ rw e (decide_held P s h j g v u true et eu m t (below P g v u t) refl)
    ];
    replayed_is = λ t. elim (eq_case t u) [
      | same p e ↦ rw (e, p, below_u, eu) (rw (u_in, (enabled u u_in).1))
      | diff p e ↦ rw e (replay' t p (P.holds g v t) refl)
    ];
    legal = fired g v u m.legal u_in (λ t i. rw (enabled t i).1 (enabled t i).0);
    covered = λ t x. elim (eq_case t u) [
      | same p e ↦ rw (e, p) (λ r. by_ready (rw r))
      | diff p e ↦ rw e (λ r. covered' t x p e (below P g v u t) refl (eq_case x g) (m.covered t x r))
    ];
  }
    where
      lower : (t : ℕ) → t ≢ u → P.holds g v t ≡ true → below P g v u t ≡ true
      lower t n i = and_from _ _ i (lt-ltb t u (let w = high t i in omega arith))

      replay' : (t : ℕ) → t ≢ u → (i : Bool) → P.holds g v t ≡ i
          → cond i (P.target t (h.replayed t) g) (h.replayed t) ≡ replay_of P t (s.at t) (cond (i && ltb t u) (decided g v u true) (h.phase t))
      replay' t n true i = rw (lt-ltb t u (let w = high t i in omega arith), (enabled t i).1)
      replay' t n false i = m.replayed_is t

      -- the lower tasks of the vector have a COMMIT coming; the token covered no others
      covered' : (t x : ℕ) → t ≢ u → eqb t u ≡ false → (c : Bool) → below P g v u t ≡ c → EqCase x g
          → Covered P t x (s.offers x t) (h.ready_last t x) (h.token x) (h.phase t)
          → Covered P t x (s.offers x t) (cond (eqb x g && false) false (h.ready_last t x)) (changed h.token g (returned v u true) x)
          (cond c (decided g v u true) (h.phase t))
      covered' t x n e true f c k = by_commit refl
      covered' t x n e false f c (by_ready a) = by_ready (simp and_no a)
      covered' t x n e false f (same p q) (by_offer a b) = by_offer a (simp (q, e))
      covered' t x n e false f (diff p q) (by_offer a b) = by_offer a (rw q b)
      covered' t x n e false f (same p q) (by_token a) = clash (sym (lower t n (rw (p, et) at a)) ∙ f)
      covered' t x n e false f (diff p q) (by_token a) = by_token (rw q a)
      covered' t x n e false f c (by_commit a) = by_commit a
