-- "House format, little-endian. Each record: body length (2 bytes, body only), kind (2 bytes), body."
use Rattle.std.specs.Prelude.{ℕ, ◌+◌, ◌-◌, ◌*◌, cond, not, List, [], ◌∷◌, eqb, ltb, get_or, length, Ok, Err}
use Rattle.answers.specs.Answers.{is_done, Answer}
use Rattle.answers.specs.declared.Refusal.TheVariants.{CutOff, BodyLength}

-- "Every kind has one body length": kinds 1 to 5 in turn; there is no kind 0
abbrev pub body_length_of : ℕ → ℕ
body_length_of kind = get_or (0 ∷ 2 ∷ 3 ∷ 4 ∷ 3 ∷ 2 ∷ []) kind 0

abbrev pub byte_at : List ℕ → ℕ → ℕ
byte_at file i = get_or file i 0

abbrev pub word_at : List ℕ → ℕ → ℕ
word_at file i = byte_at file i + byte_at file (i + 1) * 256

-- of the record whose head stands at `at`: the kind, and the bytes of head and body
abbrev pub kind_at : List ℕ → ℕ → ℕ
kind_at file at = word_at file (at + 2)

abbrev pub size_at : List ℕ → ℕ → ℕ
size_at file at = 4 + body_length_of (kind_at file at)

-- the checks of a head in the paper's order: four head bytes present (1); the kind, as the kind of file judges it;
-- body length (3); body present (1)
unfoldable pub head_fault : List ℕ → ℕ → Answer → Answer
head_fault file at judged =
    cond (ltb (length file - at) 4) (Err CutOff)
    (cond (not (is_done judged)) judged
    (cond (not (eqb (4 + word_at file at) (size_at file at))) (Err BodyLength)
    (cond (ltb (length file - at) (size_at file at)) (Err CutOff)
    (Ok tt))))
