-- A file of records is read from its start, record by record, until the first fault or the end.
use Rattle.std.specs.Prelude.{ℕ, suc, zero, ◌+◌, cond, List, ltb, length}
use Rattle.answers.specs.Answers.{is_done, Answer}
use Rattle.format.specs.Format.{size_at}

-- What is read so far is an A, and what comes back an R. `fault at l` is the first fault of the record at `at` after l,
-- `more at l` is l with that record, `refused a at` comes back for a fault and `ended l` at the end.
module _ {A R : Type 0} (file : List ℕ) (fault : ℕ → A → Answer) (more : ℕ → A → A) (refused : Answer → ℕ → R) (ended : A → R) where
  -- the records from `at` on, n at most; a record takes at least one byte, so a file has no more records than bytes
  unfoldable pub walk : ℕ → ℕ → A → R
  walk zero at l = ended l
  walk (suc n) at l =
      cond (ltb at (length file))
      (cond (is_done (fault at l)) (walk n (at + size_at file at) (more at l)) (refused (fault at l) at))
      (ended l)
