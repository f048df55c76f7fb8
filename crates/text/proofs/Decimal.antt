-- Laws of `decimal`: a digit more, and how many digits a number has.
use Prim.Native.Nat.{ℕ, suc, zero, ◌+◌, ◌/◌, ◌%◌, ◌^◌, ◌<◌, ◌≤◌}
use mathlib.Core.Bool.{Bool, true, false, cond}
use mathlib.Core.List.{List, [], ◌∷◌, ◌++◌}
use mathlib.Core.Path.{◌≡◌, ap}
use native.Mathlib.Nat.{pow-suc, div-lt_iff_lt-mul}
use native.Mathlib.Omega.{arith}
use lib.Dec.{ltb}
use lib.ListN.{length, length-append}
use borrow.Author.Tests.{lt-ltb, le-ltb}
use Rattle.text.specs.Text.{decimal_of, decimal}

-- all digits but the last
fewer : (k n : ℕ) → n < 10 ^ suc k → n / 10 < 10 ^ k
fewer k n h = (div-lt_iff_lt-mul {k = 10} {x = n} {y = 10 ^ k} (omega arith)).1 (rw pow-suc at h)

-- room for more digits than a number has stays unused
spare : (k n : ℕ) → n < 10 ^ suc k → decimal_of (suc (suc k)) n ≡ decimal_of (suc k) n
unfolding decimal_of
spare zero n h = rw (lt-ltb n 10 h)
spare (suc k) n h =
    ap (λ (l : List ℕ). cond (ltb n 10) ((48 + n) ∷ []) (l ++ ((48 + n % 10) ∷ []))) (spare k (n / 10) (fewer (suc k) n h))

pub decimal_digit : (n : ℕ) → n < 10 → decimal n ≡ (48 + n) ∷ []
unfolding decimal_of
decimal_digit n h = rw (lt-ltb n 10 h)

pub decimal_more : (n : ℕ) → 10 ≤ n → n < 10 ^ 20 → decimal n ≡ decimal (n / 10) ++ ((48 + n % 10) ∷ [])
unfolding decimal_of
decimal_more n h m = rw (le-ltb n 10 h) (rw (spare 18 (n / 10) (fewer 19 n m)))

-- a number below 10 ^ k has at most k digits
short : (f k n : ℕ) → n < 10 ^ suc k → length (decimal_of f n) ≤ suc k
unfolding decimal_of
short zero k n h = omega arith
short (suc f) zero n h = rw (lt-ltb n 10 h) (omega arith)
short (suc f) (suc k) n h = either (ltb n 10) (short f k (n / 10) (fewer (suc k) n h))
  where
    either : (b : Bool) → length (decimal_of f (n / 10)) ≤ suc k
        → length (cond b ((48 + n) ∷ []) (decimal_of f (n / 10) ++ ((48 + n % 10) ∷ []))) ≤ suc (suc k)
    either true m = omega arith
    either false m = simp length-append (omega arith)

pub decimal_short : (k n : ℕ) → 0 < k → n < 10 ^ k → length (decimal n) ≤ k
decimal_short zero n l h = absurd (omega arith)
decimal_short (suc k) n l h = short 20 k n h

-- no number has more than there is room for
few : (f n : ℕ) → length (decimal_of f n) ≤ f
unfolding decimal_of
few zero n = omega arith
few (suc f) n = either (ltb n 10) (few f (n / 10))
  where
    either : (b : Bool) → length (decimal_of f (n / 10)) ≤ f
        → length (cond b ((48 + n) ∷ []) (decimal_of f (n / 10) ++ ((48 + n % 10) ∷ []))) ≤ suc f
    either true m = omega arith
    either false m = simp length-append (omega arith)

pub decimal_most : (n : ℕ) → length (decimal n) ≤ 20
decimal_most n = few 20 n
