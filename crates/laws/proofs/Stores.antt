-- Laws of a store in a list, seen from one place.
use Prim.Native.Nat.{ℕ, suc, zero, ◌+◌, ◌<◌}
use mathlib.Core.List.{List, [], ◌∷◌}
use mathlib.Core.Logic.{⊎_elim}
use mathlib.Core.Path.{◌≡◌, refl, ap, ◌∙◌}
use native.Mathlib.Omega.{arith}
use lib.ListN.{get_or, length, set, replicate}
use lib.Seq.{get_or-set_same}
use Rattle.std.proofs.lemmas.List.{get_or-set_other}
use Rattle.std.proofs.lemmas.Bool.{cases_eq}

-- what holds of the new element where the places meet, and of the old one, holds after the store; no range is asked
pub store_at : {A : Type 0} (l : List A) (i j : ℕ) (v d : A) (P : A → Type 0)
    → (j ≡ i → P v) → P (get_or l j d) → P (get_or (set l i v) j d)
store_at [] i j v d P h k = k
store_at (x ∷ xs) zero zero v d P h k = h refl
store_at (x ∷ xs) zero (suc j) v d P h k = k
store_at (x ∷ xs) (suc i) zero v d P h k = k
store_at (x ∷ xs) (suc i) (suc j) v d P h k = store_at xs i j v d P (λ (e : j ≡ i). h (ap suc e)) k

pub set_at : (l : List ℕ) (i j v : ℕ) (P : ℕ → Type 0) → (j ≡ i → P v) → P (get_or l j 0) → P (get_or (set l i v) j 0)
set_at l i j v = store_at l i j v 0

-- a loop's turn that fills one place more
pub fill_turn : (l : List ℕ) (n v : ℕ) (f : ℕ → ℕ) → n < length l → v ≡ f n
    → ((k : ℕ) → k < n → get_or l k 0 ≡ f k) → (k : ℕ) → k < n + 1 → get_or (set l n v) k 0 ≡ f k
fill_turn l n v f h e p k m = ⊎_elim
    (λ (q : k ≡ n). rw q (get_or-set_same l n v 0 h ∙ e))
    (λ (q : k ≡ n → ⊥). get_or-set_other l n k v 0 q ∙ p k (omega arith))
    (cases_eq k n)

pub zero_at : (n j : ℕ) → ◌≡◌ {A = ℕ} (get_or (replicate n 0) j 0) 0
zero_at zero j = refl
zero_at (suc n) zero = refl
zero_at (suc n) (suc j) = zero_at n j
