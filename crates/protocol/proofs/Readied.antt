-- A READY at a gate is taken from its channel, and its task joins the offers.
use Rattle.std.specs.Prelude.{Option, None, Some}
use Prim.Native.Nat.{ℕ}
use mathlib.Core.Bool.{Bool, true, false}
use mathlib.Core.List.{List, ◌∷◌}
use mathlib.Core.Path.{◌≡◌, refl, sym, ◌∙◌}
use Rattle.channels.specs.declared.Message.{Message}
use Rattle.channels.specs.declared.Message.TheVariants.{Ready}
use Rattle.protocol.specs.Plans.{Plan, changed_to}
use Rattle.protocol.specs.Lines.{Line}
use Rattle.protocol.specs.Steps.{ready_taken}
use Rattle.protocol.proofs.Cases.{same, diff, eq_case, clash}
use Rattle.protocol.proofs.Tokens.{result_by, up_messages}
use Rattle.protocol.proofs.Invariant.{Ghost, PairLinks, Links, Covered, by_ready, by_offer, by_token, by_commit, Meaning}
use Rattle.protocol.proofs.Reading.{UpFront, a_ready, a_result, up_front, last_behind}

abbrev pub ready_taken_ghost : Ghost → ℕ → ℕ → Ghost
ready_taken_ghost h t g = record {
  token = h.token;
  phase = h.phase;
  passed_to = h.passed_to;
  ready_before = changed_to h.ready_before t g false;
  ready_last = changed_to h.ready_last t g (last_behind (result_by t (h.token g)) (h.ready_last t g));
  replayed = h.replayed;
}

module _ (P : Plan) (s : Line) (h : Ghost) (j : Links P s h) (t g : ℕ) (rest : List Message) (em : s.up t g ≡ Ready ∷ rest) where
  pub ready_links : Links P (ready_taken s t g rest) (ready_taken_ghost h t g)
  ready_links = record {
    gate = j.gate;
    task = j.task;
    higher = j.higher;
    lower = j.lower;
    own = j.own;
    pair = λ y x. elim (eq_case x g) [
      | diff p e ↦ rw e (j.pair y x)
      | same p e ↦ elim (eq_case y t) [ diff q f ↦ simp (e, f) (j.pair y x) | same q f ↦ rw (e, f, p, q) here ]
    ];
  }
    where
      behind : UpFront g (result_by t (h.token g)) (h.ready_last t g) Ready rest
          → rest ≡ up_messages g (result_by t (h.token g)) false (last_behind (result_by t (h.token g)) (h.ready_last t g))
      behind (a_ready m e) = e
      behind (a_result true m r e) = clash (cc)
      behind (a_result false m r e) = clash (cc)

      here : PairLinks P t g (s.waiting t) rest (s.down g t) (h.token g) (h.phase t) (h.passed_to t) false (last_behind (result_by t (h.token g)) (h.ready_last t g))
      here = let q = j.pair t g in record {
        up_is = behind (up_front g (result_by t (h.token g)) (h.ready_before t g) (h.ready_last t g) Ready rest (sym q.up_is ∙ em));
        down_is = q.down_is;
        waiting_is = q.waiting_is;
        undecided_is = q.undecided_is;
        passed_is = q.passed_is;
      }

  pub ready_meaning : Meaning P s h → Meaning P (ready_taken s t g rest) (ready_taken_ghost h t g)
  ready_meaning m = record {
    held_ready = m.held_ready;
    replayed_is = m.replayed_is;
    legal = m.legal;
    covered = λ y x r. elim (eq_case x g) [
      | diff p e ↦ rw e (m.covered y x r)
      | same p e ↦ elim (eq_case y t) [
        | diff q f ↦ simp (e, f) (m.covered y x r)
        | same q f ↦ rw (e, f, p, q) (here (result_by t (h.token g)) refl (rw (p, q) at (m.covered y x r)))
      ]
    ];
  }
    where
      -- with no result on the way the READY becomes the offer
      here : (r : Option Bool) → result_by t (h.token g) ≡ r → Covered P t g (s.offers g t) (h.ready_last t g) (h.token g) (h.phase t)
          → Covered P t g true (last_behind r (h.ready_last t g)) (h.token g) (h.phase t)
      here None e c = by_offer refl e
      here (Some k) e (by_ready a) = by_ready a
      here (Some k) e (by_offer a b) = by_offer refl b
      here (Some k) e (by_token a) = by_token a
      here (Some k) e (by_commit a) = by_commit a
