-- Laws of `typed`: one list behind another, what it keeps, and that where there is room it types all and nothing else.
use Prim.Native.Nat.{ℕ, suc, ◌+◌, ◌<◌, ◌≤◌}
use mathlib.Core.List.{List, [], ◌∷◌, ◌++◌, append_assoc}
use mathlib.Core.Path.{◌≡◌, refl, ◌∙◌}
use native.Mathlib.Nat.{le_of_suc-le-suc, add-zero, zero-add}
use native.Mathlib.Omega.{arith}
use lib.ListN.{length, drop, length-set, length-append}
use lib.Seq.{set-append_seam}
use borrow.Author.Tests.{lt-ltb}
use Rattle.text.specs.Text.{Text, typed_byte, typed}

pub typed_append : (xs ys : List ℕ) (t : Text) → typed (xs ++ ys) t ≡ typed ys (typed xs t)
unfolding typed
typed_append [] ys t = refl
typed_append (x ∷ xs) ys t = typed_append xs ys (typed_byte x t)

pub typed_length : (bs : List ℕ) (t : Text) → length (typed bs t).bytes ≡ length t.bytes
unfolding typed
typed_length [] t = refl
typed_length (b ∷ bs) t = typed_length bs (typed_byte b t) ∙ length-set t.bytes t.at b

-- behind what stands already
typed_behind : (p bs buffer : List ℕ) → length bs ≤ length buffer
    → typed bs (record { bytes = p ++ buffer; at = length p })
    ≡ record { bytes = p ++ (bs ++ drop (length bs) buffer); at = length p + length bs }
unfolding typed
typed_behind p [] buffer h = rw add-zero
typed_behind p (b ∷ bs) [] h = absurd (omega arith)
typed_behind p (b ∷ bs) (x ∷ buffer) h =
    let q = p ++ b ∷ [] in
    let n : length q ≡ length p + 1 = length-append p (b ∷ []) in
    let r : length p < length (p ++ x ∷ buffer) = simp length-append (omega arith) in
    let e = typed_behind q bs buffer (le_of_suc-le-suc h) in
    let m : length p + suc (length bs) ≡ length p + 1 + length bs = omega arith in
    rw (lt-ltb _ _ r, set-append_seam p x buffer b, m) (simp (append_assoc, n) at e)

-- where there is room for a list it is typed whole, and nothing behind it changes
pub typed_whole : (bs buffer : List ℕ) → length bs ≤ length buffer
    → typed bs (record { bytes = buffer; at = 0 }) ≡ record { bytes = bs ++ drop (length bs) buffer; at = length bs }
typed_whole bs buffer h = simp zero-add at (typed_behind [] bs buffer h)
