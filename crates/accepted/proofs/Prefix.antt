-- A file's first 40,000 bytes decide: a longer file earns the same answer and place.
use Prim.Native.Nat.{ℕ, suc, zero, ◌+◌, ◌-◌, ◌<◌, ◌≤◌}
use mathlib.Core.Bool.{true, false}
use mathlib.Core.List.{List}
use mathlib.Core.Logic.{⊎_elim}
use mathlib.Core.Path.{◌≡◌, sym, ap, ◌∙◌}
use native.Mathlib.Omega.{arith}
use lib.ListN.{get_or, length, take}
use lib.Seq.{get_or-take, length-take-le}
use borrow.Author.Tests.{le-ltb}
use Rattle.answers.specs.Answers.{is_done, Answer}
use Rattle.format.specs.Format.{size_at, kind_at, head_fault}
use Rattle.format.specs.Walk.{walk}
use Rattle.format.proofs.Sizes.{size_le}
use Rattle.format.proofs.Walks.{step_more, step_refused}
use Rattle.std.proofs.lemmas.Bool.{cases_Bool}
use Rattle.records.specs.Records.{record_at}
use Rattle.table.specs.Tables.{empty_table}
use Rattle.reader.specs.Parts.{loading, none_came}
use Rattle.reader.specs.declared.Loading.{Loading}
use Rattle.reader.specs.Rules.{kind_fault}
use Rattle.reader.specs.Reader.{fault_at, with_record_at, refused_of, ended_of, read_of}
use Rattle.accepted.proofs.Reached.{furthest}
use Rattle.accepted.proofs.Records.{Held, keeps}
use Rattle.accepted.proofs.Tasks.{first_reached}

module _ (one other : List ℕ) (l₁ : 40000 ≤ length one) (l₂ : 40000 ≤ length other)
    (same : (i : ℕ) → i < 40000 → get_or one i 0 ≡ get_or other i 0) where
  same_kind : (at : ℕ) → at ≤ 33782 → kind_at one at ≡ kind_at other at
  same_kind at h = rw (same (at + 2) (omega arith), same (at + 2 + 1) (omega arith))

  same_size : (at : ℕ) → at ≤ 33782 → size_at one at ≡ size_at other at
  same_size at h = rw (same_kind at h)

  same_head : (at : ℕ) (kind : Answer) → at ≤ 33782 → head_fault one at kind ≡ head_fault other at kind
  unfolding head_fault
  same_head at kind h =
      rw (
        same_kind at h,
        same at (omega arith),
        same (at + 1) (omega arith),
        le-ltb (length one - at) 4 (omega arith),
        le-ltb (length other - at) 4 (omega arith),
        le-ltb (length one - at) (size_at other at) (omega (arith, size_le other at)),
        le-ltb (length other - at) (size_at other at) (omega (arith, size_le other at)),
      )

  same_record : (at : ℕ) → at ≤ 33782 → record_at one at ≡ record_at other at
  unfolding record_at
  same_record at h =
      rw (
        same_kind at h,
        same (at + 4) (omega arith),
        same (at + 5) (omega arith),
        same (at + 6) (omega arith),
        same (at + 7) (omega arith),
        same (at + 5 + 1) (omega arith),
      )

  same_fault : (at : ℕ) (l : Loading) → at ≤ 33782 → fault_at one at l ≡ fault_at other at l
  unfolding fault_at
  same_fault at l h =
      rw (same_kind at h, same_head at (kind_fault l.table.tasks l.progress (kind_at other at)) h, same_record at h)

  same_more : (at : ℕ) (l : Loading) → at ≤ 33782 → with_record_at one at l ≡ with_record_at other at l
  unfolding with_record_at
  same_more at l h = rw (same_record at h)

  -- neither reading comes to its file's end, so each ends at a fault of the same record
  same_walk : (m n at : ℕ) (l : Loading) → Held at l → 40000 ≤ at + m → 40000 ≤ at + n
      → walk one (fault_at one) (with_record_at one) refused_of (ended_of (length one)) m at l
      ≡ walk other (fault_at other) (with_record_at other) refused_of (ended_of (length other)) n at l
  same_walk zero n at l h a b = absurd (omega (arith, furthest at l.table l.progress h))
  same_walk (suc m) zero at l h a b = absurd (omega (arith, furthest at l.table l.progress h))
  same_walk (suc m) (suc n) at l h a b =
      let z : at ≤ 33782 = furthest at l.table l.progress h in
      let e : fault_at one at l ≡ fault_at other at l = same_fault at l z in
      ⊎_elim
      (λ (d : is_done (fault_at other at l) ≡ true).
      step_more one (fault_at one) (with_record_at one) refused_of (ended_of (length one)) m at l (omega arith) (rw e d)
      ∙ ap (λ (x : Loading). walk one (fault_at one) (with_record_at one) refused_of (ended_of (length one)) m (at + size_at one at) x) (same_more at l z)
      ∙ ap (λ (k : ℕ). walk one (fault_at one) (with_record_at one) refused_of (ended_of (length one)) m (at + k) (with_record_at other at l)) (same_size at z)
      ∙ same_walk m n (at + size_at other at) (with_record_at other at l) (keeps other at l (omega arith) h d) (omega arith) (omega arith)
      ∙ sym (step_more other (fault_at other) (with_record_at other) refused_of (ended_of (length other)) n at l (omega arith) d))
      (λ (d : is_done (fault_at other at l) ≡ false).
      step_refused one (fault_at one) (with_record_at one) refused_of (ended_of (length one)) m at l (omega arith) (rw e d)
      ∙ ap (λ (x : Answer). refused_of x at) e
      ∙ sym (step_refused other (fault_at other) (with_record_at other) refused_of (ended_of (length other)) n at l (omega arith) d))
      (cases_Bool (is_done (fault_at other at l)))

-- "first 40,000 bytes; any longer file earns the same refusal from those"
pub first_bytes : (file : List ℕ) → 40000 ≤ length file → read_of (take 40000 file) ≡ read_of file
first_bytes file h =
    let e : length (take 40000 file) ≡ 40000 = length-take-le 40000 file h in
    same_walk (take 40000 file) file (omega arith) h (λ (i : ℕ) (k : i < 40000). get_or-take 40000 file i 0 k)
    (length (take 40000 file)) (length file) 0 (loading empty_table none_came) first_reached (omega arith) (omega arith)
