-- What a record has passed that has no fault.
use Rattle.std.specs.Prelude.{Ok, Err}
use Prim.Native.Nat.{ℕ, suc, zero, ◌+◌, ◌-◌}
use mathlib.Core.Bool.{Bool, true, false, cond, ◌&&◌, not, true≢false}
use mathlib.Core.List.{List}
use mathlib.Core.Path.{◌≡◌, refl, sym, ◌∙◌}
use native.Mathlib.Omega.{arith}
use lib.Dec.{eqb, ltb, leb}
use lib.ListN.{length}
use borrow.Author.Tests.{not-false, leb-true}
use Rattle.answers.specs.Answers.{is_done, Answer}
use Rattle.answers.specs.declared.Refusal.TheVariants.{CutOff, Kind, BodyLength, FieldRange, Order, Missing, TooMany}
use Rattle.format.specs.Format.{body_length_of, word_at, kind_at, size_at, head_fault}
use Rattle.std.proofs.lemmas.Bool.{and_parts}
use Rattle.records.specs.Records.{record_at}
use Rattle.records.specs.declared.Record.{Record}
use Rattle.records.specs.declared.Record.TheVariants.{System, Task, Transition, Vector}
use Rattle.reader.specs.declared.Loading.{Loading}
use Rattle.reader.specs.Rules.{allowed_kind, kind_fault, in_range, is_ninth, in_order, field_fault}
use Rattle.reader.specs.Reader.{fault_at}
use Rattle.reader.specs.declared.Progress.{Progress}

-- a test whose fault did not come was false, and what stands behind it is done
pub passed : (t : Bool) (fault rest : Answer) → is_done fault ≡ false → is_done (cond t fault rest) ≡ true → (t ≡ false) × (is_done rest ≡ true)
passed true fault rest n d = absurd (true≢false (sym d ∙ n))
passed false fault rest n d = (refl, d)

both : (head fields : Answer) → is_done (cond (is_done head) fields head) ≡ true → (is_done head ≡ true) × (is_done fields ≡ true)
both head fields d = turn (is_done head) refl d
  where
    turn : (t : Bool) → is_done head ≡ t → is_done (cond t fields head) ≡ true → (is_done head ≡ true) × (is_done fields ≡ true)
    turn true e d = (e, d)
    turn false e d = absurd (true≢false (sym d ∙ e))

judged : (kind rest : Answer) → is_done (cond (not (is_done kind)) kind rest) ≡ true → is_done kind ≡ true
judged kind rest d = turn (is_done kind) refl d
  where
    turn : (t : Bool) → is_done kind ≡ t → is_done (cond (not t) kind rest) ≡ true → is_done kind ≡ true
    turn true e d = e
    turn false e d = d

pub record Fields (l : Loading) (r : Record) : Type 0 where
  pub range : in_range l.table r ≡ true
  pub few : is_ninth l.table r ≡ false
  pub order : in_order l r ≡ true

pub fields_passed : (l : Loading) (r : Record) → is_done (field_fault l r) ≡ true → Fields l r
unfolding field_fault
fields_passed l r d =
    let p = passed (not (in_range l.table r)) (Err FieldRange) (cond (is_ninth l.table r) (Err TooMany) (cond (not (in_order l r)) (Err Order) (Ok tt))) refl d in
    let q = passed (is_ninth l.table r) (Err TooMany) (cond (not (in_order l r)) (Err Order) (Ok tt)) refl p.1 in
    let s = passed (not (in_order l r)) (Err Order) (Ok tt) refl q.1 in
    record { range = not-false (in_range l.table r) p.0; few = q.0; order = not-false (in_order l r) s.0 }

head_passed : (file : List ℕ) (at : ℕ) (kind : Answer) → is_done (head_fault file at kind) ≡ true → is_done kind ≡ true
unfolding head_fault
head_passed file at kind d =
    let n : ℕ = size_at file at in
    let rest : Answer = cond (not (eqb (4 + word_at file at) n)) (Err BodyLength) (cond (ltb (length file - at) n) (Err CutOff) (Ok tt)) in
    judged kind rest (passed (ltb (length file - at) 4) (Err CutOff) (cond (not (is_done kind)) kind rest) refl d).1

kind_passed : (tasks : ℕ) (p : Progress) (k : ℕ) → is_done (kind_fault tasks p k) ≡ true → allowed_kind p.kind k ≡ true
unfolding kind_fault
kind_passed tasks p k d =
    not-false (allowed_kind p.kind k)
    (passed (not (allowed_kind p.kind k)) (Err Kind) (cond (ltb 2 k && ltb p.came tasks) (Err Missing) (Ok tt)) refl d).0

-- the kind of a record that was read
abbrev pub kind_of : Record → ℕ
kind_of (System tasks gates) = 1
kind_of (Task t states start) = 2
kind_of (Transition t from g to) = 3
kind_of (Vector g mask) = 4

pub record Passes (file : List ℕ) (at : ℕ) (l : Loading) : Type 0 where
  pub allowed : allowed_kind l.progress.kind (kind_of (record_at file at)) ≡ true
  pub fields : Fields l (record_at file at)
  pub size : size_at file at ≡ 4 + body_length_of (kind_of (record_at file at))

by_kind : (k : ℕ) (x y z w : Record) → kind_of x ≡ 1 → kind_of y ≡ 2 → kind_of z ≡ 3 → kind_of w ≡ 4 → (leb 1 k && leb k 4) ≡ true
    → kind_of (cond (eqb k 1) x (cond (eqb k 2) y (cond (eqb k 3) z w))) ≡ k
by_kind zero x y z w a b c d h = absurd (true≢false (sym h))
by_kind (suc zero) x y z w a b c d h = a
by_kind (suc (suc zero)) x y z w a b c d h = b
by_kind (suc (suc (suc zero))) x y z w a b c d h = c
by_kind (suc (suc (suc (suc zero)))) x y z w a b c d h = d
by_kind (suc (suc (suc (suc (suc k))))) x y z w a b c d h =
    absurd (omega (arith, leb-true (suc (suc (suc (suc (suc k))))) 4 ((and_parts (leb 1 (suc (suc (suc (suc (suc k)))))) (leb (suc (suc (suc (suc (suc k))))) 4) h).1)))

same_kind : (file : List ℕ) (at : ℕ) → (leb 1 (kind_at file at) && leb (kind_at file at) 4) ≡ true → kind_of (record_at file at) ≡ kind_at file at
unfolding record_at
same_kind file at h = by_kind (kind_at file at) _ _ _ _ refl refl refl refl h

pub passes : (file : List ℕ) (at : ℕ) (l : Loading) → is_done (fault_at file at l) ≡ true → Passes file at l
unfolding fault_at
passes file at l d =
    let k : ℕ = kind_at file at in
    let b = both (head_fault file at (kind_fault l.table.tasks l.progress k)) (field_fault l (record_at file at)) d in
    let a : allowed_kind l.progress.kind k ≡ true = kind_passed l.table.tasks l.progress k (head_passed file at (kind_fault l.table.tasks l.progress k) b.0) in
    let e : kind_of (record_at file at) ≡ k = same_kind file at ((and_parts _ _ a).0) in
    record { allowed = rw e a; fields = fields_passed l (record_at file at) b.1; size = rw e }
