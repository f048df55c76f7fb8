-- Text in a lent buffer.
use Rattle.std.specs.Prelude.{ℕ, zero, suc, ◌+◌, ◌/◌, ◌%◌, cond, List, [], ◌∷◌, ◌++◌, ltb, length, set}
use Prim.Native.Char.{code}
use Prim.Native.String.{String, [] as nothing, ◌∷◌ as ◌then◌}

-- the bytes of a word
abbrev pub bytes_of : String → List ℕ
bytes_of nothing = []
bytes_of (c then s) = code c ∷ bytes_of s

-- a number in decimal, of at most 20 digits, which all of 64 bits have room in
unfoldable pub decimal_of : ℕ → ℕ → List ℕ
decimal_of zero n = []
decimal_of (suc k) n = cond (ltb n 10) ((48 + n) ∷ []) (decimal_of k (n / 10) ++ ((48 + n % 10) ∷ []))

abbrev pub decimal : ℕ → List ℕ
decimal n = decimal_of 20 n

-- f 0, behind it f 1, .. and last f (n - 1)
unfoldable pub joined : (ℕ → List ℕ) → ℕ → List ℕ
joined f zero = []
joined f (suc n) = joined f n ++ f n

-- A text so far: a buffer, and how many of its bytes are written; a byte that finds no room is left out.
pub record Text : Type 0 where
  pub bytes : List ℕ
  pub at : ℕ

abbrev pub typed_byte : ℕ → Text → Text
typed_byte b t = record { bytes = set t.bytes t.at b; at = cond (ltb t.at (length t.bytes)) (t.at + 1) t.at }

unfoldable pub typed : List ℕ → Text → Text
typed [] t = t
typed (b ∷ bs) t = typed bs (typed_byte b t)
