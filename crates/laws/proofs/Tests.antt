-- Laws of tests: what an `&&` or a chain of refusals that came out one way says of its parts.
use Prim.Native.Nat.{ℕ, ◌+◌, ◌<◌, ◌≤◌}
use mathlib.Core.Bool.{Bool, true, false, cond, ◌&&◌}
use mathlib.Core.Logic.{◌⊎◌, inl, inr, ⊎_elim}
use mathlib.Core.Path.{◌≡◌, refl, sym, ◌∙◌}
use native.Mathlib.Omega.{arith}
use lib.Dec.{ltb}
use borrow.Author.Tests.{ltb-true, ltb-false, lt-ltb, le-ltb}

-- what holds of both holds of the one that is chosen
pub either : {A : Type 0} (P : A → Type 0) (t : Bool) (a b : A) → P a → P b → P (cond t a b)
either P true a b p q = p
either P false a b p q = q

pub and_assoc : (a b c : Bool) → ((a && b) && c) ≡ (a && (b && c))
and_assoc true b c = refl
and_assoc false b c = refl

pub le_or_lt : (a b : ℕ) → (a ≤ b) ⊎ (b < a)
le_or_lt a b = pick (ltb b a) refl
  where
    pick : (t : Bool) → ltb b a ≡ t → (a ≤ b) ⊎ (b < a)
    pick true e = inr (ltb-true b a e)
    pick false e = inl (ltb-false b a e)

-- below n and below n + 1 differ at n alone
pub ltb_other : (t n : ℕ) → (t ≡ n → ⊥) → ltb t (n + 1) ≡ ltb t n
ltb_other t n e = ⊎_elim
    (λ (h : n ≤ t). le-ltb t (n + 1) (omega arith) ∙ sym (le-ltb t n h))
    (λ (h : t < n). lt-ltb t (n + 1) (omega arith) ∙ sym (lt-ltb t n h))
    (le_or_lt n t)

-- two tests with the same yes are the same
pub same_test : (a b : Bool) → (a ≡ true → b ≡ true) → (b ≡ true → a ≡ true) → a ≡ b
same_test true b h k = sym (h refl)
same_test false true h k = k refl
same_test false false h k = refl
