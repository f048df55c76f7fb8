-- A step that moves one gate's token and changes nothing that the tasks' states have to do with keeps the meaning.
use Rattle.std.specs.Prelude.{Option, None}
use Prim.Native.Nat.{ℕ}
use mathlib.Core.Bool.{Bool, true}
use mathlib.Core.Path.{◌≡◌}
use Rattle.protocol.specs.Plans.{Plan, changed}
use Rattle.protocol.specs.Lines.{Line}
use Rattle.protocol.proofs.Cases.{same, diff, eq_case}
use Rattle.protocol.proofs.Tokens.{Token, result_by, covers}
use Rattle.protocol.proofs.Phases.{Phase}
use Rattle.protocol.proofs.Invariant.{Ghost, Covered, by_ready, by_offer, by_token, by_commit, Meaning}

abbrev pub token_to : Ghost → ℕ → Token → Ghost
token_to h g new = record {
  token = changed h.token g new;
  phase = h.phase;
  passed_to = h.passed_to;
  ready_before = h.ready_before;
  ready_last = h.ready_last;
  replayed = h.replayed;
}

pub covered_moved : (P : Plan) (t g x : ℕ) (offer last : Bool) (token : ℕ → Token) (new : Token) (p : Phase)
    → (result_by t (token g) ≡ None → result_by t new ≡ None) → (covers P t g (token g) ≡ true → covers P t g new ≡ true)
    → Covered P t x offer last (token x) p → Covered P t x offer last (changed token g new x) p
covered_moved P t g x offer last token new p results covering c =
    elim (eq_case x g) [ same q e ↦ rw (e, q) (go (rw q at c)) | diff q e ↦ rw e c ]
  where
    go : Covered P t g offer last (token g) p → Covered P t g offer last new p
    go (by_ready a) = by_ready a
    go (by_offer a b) = by_offer a (results b)
    go (by_token a) = by_token (covering a)
    go (by_commit a) = by_commit a

module _ (P : Plan) (s s' : Line) (h : Ghost) (m : Meaning P s h) (g : ℕ) (new : Token) (passed_to : ℕ → Option ℕ)
    (at_is : s'.at ≡ s.at) (offers_is : s'.offers ≡ s.offers) (log_is : s'.log ≡ s.log)
    (results : (t : ℕ) → result_by t (h.token g) ≡ None → result_by t new ≡ None)
    (covering : (t : ℕ) → covers P t g (h.token g) ≡ true → covers P t g new ≡ true) where
  pub token_meaning : Meaning P s' (record {
    token = changed h.token g new;
    phase = h.phase;
    passed_to = passed_to;
    ready_before = h.ready_before;
    ready_last = h.ready_last;
    replayed = h.replayed;
  })
  token_meaning = record {
    held_ready = λ t. rw at_is (m.held_ready t);
    replayed_is = λ t. rw at_is (m.replayed_is t);
    legal = rw log_is m.legal;
    covered = λ t x r.
        rw offers_is (covered_moved P t g x (s.offers x t) (h.ready_last t x) h.token new (h.phase t) (results t) (covering t) (m.covered t x (rw at_is at r)));
  }
