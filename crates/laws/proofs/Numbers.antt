-- Laws of `all_below` and of `all_from`: a turn more, the end, and what an outcome says.
use Prim.Native.Nat.{ℕ, suc, zero, ◌+◌, ◌*◌, ◌<◌}
use mathlib.Core.Bool.{Bool, true, false, ◌&&◌, and-true, and_comm, true≢false}
use mathlib.Core.List.{List, [], ◌∷◌}
use mathlib.Core.Logic.{⊎_elim}
use mathlib.Core.Path.{◌≡◌, refl, sym, ap, ◌∙◌}
use native.Mathlib.Nat.{eq-or-lt_of_le, le_of_suc-le-suc, add-suc, add-zero, zero-add, suc-add, zero-mul, suc-mul}
use native.Mathlib.Numerals.{add-one, one-add}
use native.Mathlib.Omega.{arith}
use lib.ListN.{length, get_or}
use Rattle.laws.specs.Below.{all_below}
use Rattle.laws.specs.Each.{all_from}
use Rattle.std.proofs.lemmas.Bool.{and_cases, and_parts, and_right}
use Rattle.laws.proofs.Tests.{and_assoc}

pub below_none : (P : ℕ → Bool) → all_below 0 P ≡ true
unfolding all_below
below_none P = refl

pub below_suc : (n : ℕ) (P : ℕ → Bool) → all_below (n + 1) P ≡ (P n && all_below n P)
unfolding all_below
below_suc n P = rw add-one

-- a loop's turn that joins one test more to those before it
pub below_turn : (n : ℕ) (P : ℕ → Bool) (r ok : Bool) → r ≡ P n → ok ≡ all_below n P → (r && ok) ≡ all_below (n + 1) P
below_turn n P r ok p q = rw (below_suc n P, p, q)

pub below_at : (n : ℕ) (P : ℕ → Bool) → all_below n P ≡ true → (k : ℕ) → k < n → P k ≡ true
unfolding all_below
below_at zero P h k l = absurd (omega arith)
below_at (suc n) P h k l = ⊎_elim
    (λ (e : k ≡ n). ap P e ∙ (and_parts (P n) (all_below n P) h).0)
    (λ (m : k < n). below_at n P ((and_parts (P n) (all_below n P) h).1) k m)
    (eq-or-lt_of_le (le_of_suc-le-suc l))

pub below_of : (n : ℕ) (P : ℕ → Bool) → ((k : ℕ) → k < n → P k ≡ true) → all_below n P ≡ true
unfolding all_below
below_of zero P h = refl
below_of (suc n) P h = rw (h n (omega arith)) (below_of n P (λ (k : ℕ) (l : k < n). h k (omega arith)))

-- one more turn
pub below_more : (n : ℕ) (P : ℕ → Bool) → all_below n P ≡ true → P n ≡ true → all_below (n + 1) P ≡ true
below_more n P h p = rw (below_suc n P, p, h)

-- one that fails
pub below_fails : (n : ℕ) (P : ℕ → Bool) (k : ℕ) → k < n → P k ≡ false → all_below n P ≡ false
unfolding all_below
below_fails zero P k l h = absurd (omega arith)
below_fails (suc n) P k l h = ⊎_elim
    (λ (e : k ≡ n). rw (sym (ap P e) ∙ h))
    (λ (m : k < n). and_right (P n) (all_below n P) (below_fails n P k m h))
    (eq-or-lt_of_le (le_of_suc-le-suc l))

-- where not all below n pass there is one that fails
pub below_false : (n : ℕ) (P : ℕ → Bool) → all_below n P ≡ false → (k : ℕ) × ((k < n) × (P k ≡ false))
unfolding all_below
below_false zero P h = absurd (true≢false h)
below_false (suc n) P h = ⊎_elim
    (λ (e : P n ≡ false). (n, (omega arith, e)))
    (λ (e : all_below n P ≡ false). let r = below_false n P e in (r.0, (omega (arith, r.1.0), r.1.1)))
    (and_cases (P n) (all_below n P) h)

-- tests that agree below n
pub below_same : (n : ℕ) (P Q : ℕ → Bool) → ((k : ℕ) → k < n → P k ≡ Q k) → all_below n P ≡ all_below n Q
unfolding all_below
below_same zero P Q h = refl
below_same (suc n) P Q h = rw (h n (omega arith), below_same n P Q (λ (k : ℕ) (l : k < n). h k (omega arith)))

-- the first m, and the next n
pub below_add : (m n : ℕ) (P : ℕ → Bool) → all_below (m + n) P ≡ (all_below n (λ (k : ℕ). P (m + k)) && all_below m P)
unfolding all_below
below_add m zero P = rw add-zero
below_add m (suc n) P =
    rw (add-suc m n, below_add m n P) (sym (and_assoc (P (m + n)) (all_below n (λ (k : ℕ). P (m + k))) (all_below m P)))

-- n rows of m
pub below_rows : (n m : ℕ) (P : ℕ → Bool) → all_below (n * m) P ≡ all_below n (λ (i : ℕ). all_below m (λ (j : ℕ). P (i * m + j)))
unfolding all_below
below_rows zero m P = rw zero-mul
below_rows (suc n) m P = rw (suc-mul n m, below_add (n * m) m P, below_rows n m P)

-- a list's elements are tested by index
pub each_below : (P : ℕ → ℕ → Bool) (l : List ℕ) → all_from P 0 l ≡ all_below (length l) (λ (k : ℕ). P k (get_or l k 0))
unfolding all_below all_from
each_below P l = simp zero-add at (from 0 l)
  where
    from : (i : ℕ) (l : List ℕ) → all_from P i l ≡ all_below (length l) (λ (k : ℕ). P (i + k) (get_or l k 0))
    from i [] = refl
    from i (x ∷ xs) =
        simp (from (suc i) xs, suc-add, and_comm (P i x))
        (simp (one-add, add-suc, add-zero, and-true) at (sym (below_add 1 (length xs) (λ (k : ℕ). P (i + k) (get_or (x ∷ xs) k 0)))))

pub each_of : (P : ℕ → ℕ → Bool) (l : List ℕ) → ((i : ℕ) → i < length l → P i (get_or l i 0) ≡ true) → all_from P 0 l ≡ true
each_of P l h = each_below P l ∙ below_of (length l) _ h

pub each_at : (P : ℕ → ℕ → Bool) (l : List ℕ) → all_from P 0 l ≡ true → (i : ℕ) → i < length l → P i (get_or l i 0) ≡ true
each_at P l h = below_at (length l) _ (sym (each_below P l) ∙ h)
