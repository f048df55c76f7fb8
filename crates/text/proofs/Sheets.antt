-- Laws of `with_typed`: nothing typed, one list behind another, one byte more of a list, and one list more of many.
use Prim.Native.Nat.{ℕ, ◌+◌, ◌<◌}
use mathlib.Core.List.{List, [], ◌∷◌, ◌++◌}
use mathlib.Core.Path.{◌≡◌, refl, sym, ap}
use native.Mathlib.Numerals.{add-one}
use lib.ListN.{length, get_or, take}
use Rattle.std.proofs.lemmas.List.{take_more}
use Rattle.text.specs.declared.Sheet.{Sheet}
use Rattle.text.specs.Text.{Text, typed, joined}
use Rattle.text.specs.Sheets.{on, with_text, with_typed}
use Rattle.text.proofs.Typing.{typed_append}

pub with_none : (s : Sheet) → with_typed [] s ≡ s
unfolding with_typed typed
with_none s = refl

pub with_after : (xs ys : List ℕ) (s : Sheet) → with_typed ys (with_typed xs s) ≡ with_typed (xs ++ ys) s
unfolding with_typed
with_after xs ys s = ap (λ (t : Text). with_text t s) (sym (typed_append xs ys (on s)))

pub with_byte : (l : List ℕ) (i : ℕ) (s : Sheet) → i < length l
    → with_typed (take (i + 1) l) s ≡ with_typed (get_or l i 0 ∷ []) (with_typed (take i l) s)
with_byte l i s h = rw (take_more l i 0 h) (sym (with_after (take i l) (get_or l i 0 ∷ []) s))

pub joined_none : (f : ℕ → List ℕ) (s : Sheet) → with_typed (joined f 0) s ≡ s
unfolding joined
joined_none f s = with_none s

pub joined_turn : (f : ℕ → List ℕ) (n : ℕ) (s : Sheet)
    → with_typed (joined f (n + 1)) s ≡ with_typed (f n) (with_typed (joined f n) s)
unfolding joined
joined_turn f n s = rw add-one (sym (with_after (joined f n) (f n) s))
