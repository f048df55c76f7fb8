-- Laws of `walk`: a record more, a refusal, the end; and what holds wherever a walk comes to.
use Prim.Native.Nat.{ℕ, suc, zero, ◌+◌, ◌-◌, ◌<◌, ◌≤◌}
use mathlib.Core.Bool.{true, false}
use mathlib.Core.List.{List}
use mathlib.Core.Logic.{◌⊎◌, inl, inr, ⊎_elim}
use mathlib.Core.Path.{◌≡◌, refl, sym, ap, ◌∙◌, subst}
use native.Mathlib.Nat.{sub-zero}
use native.Mathlib.Omega.{arith}
use lib.ListN.{length}
use borrow.Author.Tests.{lt-ltb, le-ltb}
use Rattle.answers.specs.Answers.{is_done, Answer}
use Rattle.std.proofs.lemmas.Bool.{cases_Bool}
use Rattle.laws.proofs.Tests.{le_or_lt}
use Rattle.format.specs.Format.{size_at}
use Rattle.format.specs.Walk.{walk}

module _ {A R : Type 0} (file : List ℕ) (fault : ℕ → A → Answer) (more : ℕ → A → A) (refused : Answer → ℕ → R) (ended : A → R) where
  pub step_more : (n at : ℕ) (l : A) → at < length file → is_done (fault at l) ≡ true
      → walk file fault more refused ended (suc n) at l ≡ walk file fault more refused ended n (at + size_at file at) (more at l)
  unfolding walk
  step_more n at l h d = rw (lt-ltb at (length file) h, d)

  pub step_refused : (n at : ℕ) (l : A) → at < length file → is_done (fault at l) ≡ false
      → walk file fault more refused ended (suc n) at l ≡ refused (fault at l) at
  unfolding walk
  step_refused n at l h d = rw (lt-ltb at (length file) h, d)

  step_ended : (n at : ℕ) (l : A) → length file ≤ at → walk file fault more refused ended n at l ≡ ended l
  unfolding walk
  step_ended zero at l h = refl
  step_ended (suc n) at l h = rw (le-ltb at (length file) h)

  -- a reading of the whole that has come to `at` with l, for a loop to carry
  pub record Comes (at : ℕ) (l : A) (whole : R) : Type 0 where
    turns : ℕ
    within : turns ≤ at
    rest : walk file fault more refused ended (length file - turns) at l ≡ whole

  pub comes_first : (l : A) → Comes 0 l (walk file fault more refused ended (length file) 0 l)
  comes_first l = record { turns = 0; within = omega arith; rest = rw sub-zero }

  module _ {at : ℕ} {l : A} {whole : R} (c : Comes at l whole) where
    turn : (n : ℕ) → at < n → n - c.turns ≡ suc (n - (c.turns + 1))
    turn n h = let k : c.turns ≤ at = c.within in omega arith

    pub comes_more : at < length file → is_done (fault at l) ≡ true → Comes (at + size_at file at) (more at l) whole
    comes_more h d =
        let k : c.turns ≤ at = c.within in
        record {
          turns = c.turns + 1;
          within = omega arith;
          rest = sym (step_more (length file - (c.turns + 1)) at l h d) ∙ ap (λ (n : ℕ). walk file fault more refused ended n at l) (sym (turn (length file) h)) ∙ c.rest;
        }

    pub comes_refused : at < length file → is_done (fault at l) ≡ false → refused (fault at l) at ≡ whole
    comes_refused h d =
        sym (step_refused (length file - (c.turns + 1)) at l h d)
        ∙ ap (λ (n : ℕ). walk file fault more refused ended n at l) (sym (turn (length file) h)) ∙ c.rest

    pub comes_ended : length file ≤ at → ended l ≡ whole
    comes_ended h = sym (step_ended (length file - c.turns) at l h) ∙ c.rest

  -- how a reading ends, where Held at l holds wherever it comes to: at the end, or at a refused record
  module _ (Held : ℕ → A → Type 0) where
    pub record Ended (r : R) : Type 0 where
      pub at : ℕ
      pub last : A
      pub all : length file ≤ at
      pub held : Held at last
      pub is : r ≡ ended last

    pub record Refused (r : R) : Type 0 where
      pub at : ℕ
      pub last : A
      pub inside : at < length file
      pub held : Held at last
      pub faulty : is_done (fault at last) ≡ false
      pub is : r ≡ refused (fault at last) at

    module _ (keeps : (at : ℕ) (l : A) → at < length file → Held at l → is_done (fault at l) ≡ true → Held (at + size_at file at) (more at l)) where
      walk_ends : (n at : ℕ) (l : A) → Held at l → length file ≤ at + n
          → Ended (walk file fault more refused ended n at l) ⊎ Refused (walk file fault more refused ended n at l)
      walk_ends zero at l g e = inl (record { at = at; last = l; all = omega arith; held = g; is = step_ended zero at l (omega arith) })
      walk_ends (suc n) at l g e = ⊎_elim
          (λ (h : length file ≤ at). inl (record { at = at; last = l; all = h; held = g; is = step_ended (suc n) at l h }))
          (λ (h : at < length file). ⊎_elim
          (λ (d : is_done (fault at l) ≡ true).
          subst (λ (r : R). Ended r ⊎ Refused r) (sym (step_more n at l h d))
          (walk_ends n (at + size_at file at) (more at l) (keeps at l h g d) (omega arith)))
          (λ (d : is_done (fault at l) ≡ false).
          inr (record { at = at; last = l; inside = h; held = g; faulty = d; is = step_refused n at l h d }))
          (cases_Bool (is_done (fault at l))))
          (le_or_lt (length file) at)

      pub all_ends : (l : A) → Held 0 l → Ended (walk file fault more refused ended (length file) 0 l) ⊎ Refused (walk file fault more refused ended (length file) 0 l)
      all_ends l g = walk_ends (length file) 0 l g (omega arith)
