-- The laws of `up_to`: a turn more, what every turn keeps, what no turn changes, and turns that agree.
use Prim.Native.Nat.{ℕ, suc, zero, ◌+◌, ◌<◌, ◌≤◌}
use mathlib.Core.Logic.{⊎_elim}
use mathlib.Core.Path.{◌≡◌, refl, ap, subst, ◌∙◌}
use native.Mathlib.Nat.{eq-or-lt_of_le, le_of_suc-le-suc}
use native.Mathlib.Numerals.{add-one}
use native.Mathlib.Omega.{arith}
use Rattle.laws.specs.Turns.{up_to}

pub turn_more : {A : Type 0} (f : ℕ → A → A) (n : ℕ) (a : A) → up_to f (n + 1) a ≡ f n (up_to f n a)
turn_more f n a = rw add-one

pub turns_keep : {A : Type 0} (P : A → Type 0) (f : ℕ → A → A) (n : ℕ) (a : A)
    → ((k : ℕ) (b : A) → k < n → P b → P (f k b)) → P a → P (up_to f n a)
turns_keep P f zero a h p = p
turns_keep P f (suc n) a h p =
    h n (up_to f n a) (omega arith) (turns_keep P f n a (λ k b l. h k b (omega arith)) p)

-- what no turn changes stays
pub turns_stay : {A : Type 0} (f : ℕ → A → A) (a b : A) (n m : ℕ) → ((k : ℕ) → f k b ≡ b) → up_to f n a ≡ b → n ≤ m
    → up_to f m a ≡ b
turns_stay f a b n zero h e l =
    let z : n ≡ 0 = omega arith in subst (λ (k : ℕ). up_to f k a ≡ b) z e
turns_stay f a b n (suc m) h e l = ⊎_elim
    (λ (q : n ≡ suc m). subst (λ (k : ℕ). up_to f k a ≡ b) q e)
    (λ (q : n < suc m). ap (f m) (turns_stay f a b n m h e (le_of_suc-le-suc q)) ∙ h m)
    (eq-or-lt_of_le l)

-- turns that agree wherever P holds, where the first of them keep P
pub turns_same : {A : Type 0} (P : A → Type 0) (f g : ℕ → A → A) (n : ℕ) (a : A) → ((k : ℕ) (b : A) → P b → P (f k b))
    → ((k : ℕ) (b : A) → P b → f k b ≡ g k b) → P a → up_to f n a ≡ up_to g n a
turns_same P f g zero a keep same p = refl
turns_same P f g (suc n) a keep same p =
    same n (up_to f n a) (turns_keep P f n a (λ k b l. keep k b) p) ∙ ap (g n) (turns_same P f g n a keep same p)
