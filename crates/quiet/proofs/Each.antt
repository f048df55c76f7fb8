-- A test of each element of a list, by index; d stands outside the list.
use Prim.Native.Nat.{ℕ}
use mathlib.Core.Bool.{Bool, and-true, and_comm}
use mathlib.Core.List.{List, [], ◌∷◌}
use mathlib.Core.Path.{◌≡◌, refl, sym, ap, ◌∙◌}
use native.Mathlib.Numerals.{one-add}
use lib.ListN.{length, get_or}
use Rattle.std.specs.List.{list_all}
use Rattle.laws.specs.Below.{all_below}
use Rattle.laws.proofs.Numbers.{below_add}

each : {A : Type 0} (P : A → Bool) (d : A) (l : List A) → list_all P l ≡ all_below (length l) (λ (k : ℕ). P (get_or l k d))
unfolding all_below
each P d [] = refl
each P d (x ∷ xs) =
    simp (each P d xs, and_comm (P x))
    (simp (one-add, and-true) at (sym (below_add 1 (length xs) (λ (k : ℕ). P (get_or (x ∷ xs) k d)))))

pub each_by_index : {A : Type 0} (P : A → Bool) (d : A) (l : List A) (n : ℕ) → length l ≡ n → list_all P l ≡ all_below n (λ (k : ℕ). P (get_or l k d))
each_by_index P d l n h = each P d l ∙ ap (λ (m : ℕ). all_below m (λ (k : ℕ). P (get_or l k d))) h
