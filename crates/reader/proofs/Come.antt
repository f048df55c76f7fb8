-- The reader's loop, as a walk that has come to a place with what was read before it.
use Prim.Native.Nat.{ℕ, ◌+◌, ◌<◌, ◌≤◌}
use mathlib.Core.Bool.{true, false}
use mathlib.Core.List.{List}
use mathlib.Core.Path.{◌≡◌}
use lib.ListN.{length}
use Rattle.answers.specs.Answers.{is_done}
use Rattle.format.specs.Format.{size_at}
use Rattle.format.proofs.Walks.{Comes, comes_first, comes_more, comes_refused, comes_ended}
use Rattle.records.specs.Records.{record_at}
use Rattle.reader.specs.Parts.{loading_none, with_next}
use Rattle.reader.specs.Reader.{fault_at, with_record_at, refused_of, ended_of, read_of}
use Rattle.reader.specs.declared.Loading.{Loading}

abbrev pub Come : List ℕ → ℕ → Loading → Type 0
Come file at l = Comes file (fault_at file) (with_record_at file) refused_of (ended_of (length file)) at l (read_of file)

module _ (file : List ℕ) where
  pub come_first : Come file 0 loading_none
  come_first = comes_first file (fault_at file) (with_record_at file) refused_of (ended_of (length file)) loading_none

  module _ {at : ℕ} {l : Loading} (c : Come file at l) where
    pub come_more : at < length file → is_done (fault_at file at l) ≡ true
        → Come file (at + size_at file at) (with_next l (record_at file at))
    unfolding with_record_at
    come_more h d = comes_more file (fault_at file) (with_record_at file) refused_of (ended_of (length file)) c h d

    pub come_refused : at < length file → is_done (fault_at file at l) ≡ false → refused_of (fault_at file at l) at ≡ read_of file
    come_refused h d = comes_refused file (fault_at file) (with_record_at file) refused_of (ended_of (length file)) c h d

    pub come_ended : length file ≤ at → ended_of (length file) l ≡ read_of file
    come_ended h = comes_ended file (fault_at file) (with_record_at file) refused_of (ended_of (length file)) c h
