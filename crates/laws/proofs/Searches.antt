-- Laws of `first_from` and `last_below`: a turn more, the end, what the outcome says (`-says`), and that this makes it the outcome (`-is`).
use Prim.Native.Nat.{ℕ, suc, zero, ◌+◌, ◌-◌, ◌<◌, ◌≤◌}
use mathlib.Core.Bool.{Bool, true, false, cond}
use mathlib.Core.Logic.{⊎_elim}
use mathlib.Core.Path.{◌≡◌, refl, sym, ap, ◌∙◌}
use native.Mathlib.Nat.{eq-or-lt_of_le, le_of_suc-le-suc}
use native.Mathlib.Numerals.{add-one}
use native.Mathlib.Omega.{arith}
use Rattle.laws.specs.Below.{first_from}
use Rattle.laws.specs.Last.{last_below}

-- r is the first from i on, among the next n, of which P holds, or i + n
pub record First (P : ℕ → Bool) (i n r : ℕ) : Type 0 where
  pub low : i ≤ r
  pub high : r ≤ i + n
  pub holds : r < i + n → P r ≡ true
  pub before : (k : ℕ) → i ≤ k → k < r → P k ≡ false

-- r is the last below n of which P holds, or there is none and r is `none`
pub data Last (P : ℕ → Bool) (n none r : ℕ) : Type 0 where
  found : r < n → P r ≡ true → ((k : ℕ) → r < k → k < n → P k ≡ false) → Last P n none r
  nowhere : r ≡ none → ((k : ℕ) → k < n → P k ≡ false) → Last P n none r

module _ (P : ℕ → Bool) where
  -- a search that ends before e: here, one further, at the end
  pub first_here : (i e : ℕ) → i < e → P i ≡ true → first_from i (e - i) P ≡ i
  unfolding first_from
  first_here i e l p = turn (e - i) (omega arith)
    where
      turn : (n : ℕ) → 0 < n → first_from i n P ≡ i
      turn zero h = absurd (omega arith)
      turn (suc n) h = rw p

  pub first_further : (i e : ℕ) → i < e → P i ≡ false → first_from i (e - i) P ≡ first_from (i + 1) (e - (i + 1)) P
  unfolding first_from
  first_further i e l p = rw add-one (turn (e - i) (omega arith))
    where
      turn : (n : ℕ) → n ≡ suc (e - suc i) → first_from i n P ≡ first_from (suc i) (e - suc i) P
      turn n h = rw (h, p)

  pub first_end : (i e : ℕ) → e ≤ i → first_from i (e - i) P ≡ i
  unfolding first_from
  first_end i e l = turn (e - i) (omega arith)
    where
      turn : (n : ℕ) → n ≡ 0 → first_from i n P ≡ i
      turn n h = rw h

  pub first_says : (i n : ℕ) → First P i n (first_from i n P)
  unfolding first_from
  first_says i zero = record {
    low = omega arith;
    high = omega arith;
    holds = λ h. absurd (omega arith);
    before = λ k l h. absurd (omega arith);
  }
  first_says i (suc n) = turn (P i) refl (first_says (suc i) n)
    where
      turn : (b : Bool) → P i ≡ b → First P (suc i) n (first_from (suc i) n P) → First P i (suc n) (cond b i (first_from (suc i) n P))
      turn true e h = record { low = omega arith; high = omega arith; holds = λ l. e; before = λ k l m. absurd (omega arith) }
      turn false e h = record {
        low = omega arith;
        high = omega arith;
        holds = λ l. h.holds (omega arith);
        before = λ k l m. ⊎_elim
            (λ (q : i ≡ k). ap P (sym q) ∙ e)
            (λ (q : i < k). h.before k q m)
            (eq-or-lt_of_le l);
      }

  pub first_is : (i n r : ℕ) → First P i n r → first_from i n P ≡ r
  unfolding first_from
  first_is i zero r h = omega arith
  first_is i (suc n) r h = ⊎_elim
      (λ (e : i ≡ r). rw (ap P e ∙ h.holds (omega arith)) e)
      (λ (l : i < r). rw (h.before i (omega arith) l) (first_is (suc i) n r record {
        low = l;
        high = omega arith;
        holds = λ m. h.holds (omega arith);
        before = λ k m. h.before k (omega arith);
      }))
      (eq-or-lt_of_le h.low)

  -- a search downwards: just below, one lower, at the end
  pub last_here : (n none : ℕ) → 0 < n → P (n - 1) ≡ true → last_below n P none ≡ n - 1
  unfolding last_below
  last_here zero none l p = absurd (omega arith)
  last_here (suc n) none l p = let e : suc n - 1 ≡ n = omega arith in rw (sym (ap P e) ∙ p) (sym e)

  pub last_lower : (n none : ℕ) → 0 < n → P (n - 1) ≡ false → last_below n P none ≡ last_below (n - 1) P none
  unfolding last_below
  last_lower zero none l p = absurd (omega arith)
  last_lower (suc n) none l p = let e : suc n - 1 ≡ n = omega arith in rw (sym (ap P e) ∙ p, e)

  pub last_end : (n none : ℕ) → n ≤ 0 → last_below n P none ≡ none
  unfolding last_below
  last_end zero none l = refl
  last_end (suc n) none l = absurd (omega arith)

  pub last_says : (n none : ℕ) → Last P n none (last_below n P none)
  unfolding last_below
  last_says zero none = nowhere refl (λ k l. absurd (omega arith))
  last_says (suc n) none = turn (P n) refl (last_says n none)
    where
      one_more : (k : ℕ) → P n ≡ false → (k < n → P k ≡ false) → k < suc n → P k ≡ false
      one_more k e h l = ⊎_elim (λ (q : k ≡ n). ap P q ∙ e) h (eq-or-lt_of_le (le_of_suc-le-suc l))

      turn : (b : Bool) → P n ≡ b → Last P n none (last_below n P none) → Last P (suc n) none (cond b n (last_below n P none))
      turn true e h = found (omega arith) e (λ k l m. absurd (omega arith))
      turn false e (found l p h) = found (omega arith) p (λ k m. one_more k e (h k m))
      turn false e (nowhere q h) = nowhere q (λ k. one_more k e (h k))

  pub last_is : (n none r : ℕ) → Last P n none r → last_below n P none ≡ r
  unfolding last_below
  last_is zero none r (found l p h) = absurd (omega arith)
  last_is zero none r (nowhere e h) = sym e
  last_is (suc n) none r (found l p h) = ⊎_elim
      (λ (e : r ≡ n). rw (ap P (sym e) ∙ p) (sym e))
      (λ (m : r < n). rw (h n m (omega arith)) (last_is n none r (found m p (λ k q t. h k q (omega arith)))))
      (eq-or-lt_of_le (le_of_suc-le-suc l))
  last_is (suc n) none r (nowhere e h) = rw (h n (omega arith)) (last_is n none r (nowhere e (λ k l. h k (omega arith))))
