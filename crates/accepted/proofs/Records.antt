-- An accepted record of any kind keeps what holds, so that it holds wherever a reading comes to.
use Prim.Native.Nat.{ℕ, ◌+◌, ◌<◌}
use mathlib.Core.Bool.{true}
use mathlib.Core.List.{List}
use mathlib.Core.Logic.{◌⊎◌}
use mathlib.Core.Path.{◌≡◌, sym, subst}
use lib.ListN.{length}
use Rattle.answers.specs.Answers.{is_done}
use Rattle.format.specs.Format.{body_length_of, size_at}
use Rattle.format.proofs.Walks.{Ended, Refused, all_ends}
use Rattle.records.specs.Records.{record_at}
use Rattle.records.specs.declared.Record.{Record}
use Rattle.records.specs.declared.Record.TheVariants.{System, Task, Transition, Vector}
use Rattle.table.specs.Tables.{empty_table}
use Rattle.table.specs.declared.Table.{Table}
use Rattle.reader.specs.Parts.{loading, none_came}
use Rattle.reader.specs.declared.Loading.{Loading}
use Rattle.reader.specs.Rules.{allowed_kind, with_record, after_record}
use Rattle.reader.specs.Reader.{fault_at, with_record_at, refused_of, ended_of, read_of}
use Rattle.reader.specs.declared.Progress.{Progress}
use Rattle.accepted.proofs.Passed.{Fields, Passes, kind_of, passes}
use Rattle.accepted.proofs.Reached.{Reached}
use Rattle.accepted.proofs.Tasks.{first_reached, system_reached, task_reached}
use Rattle.accepted.proofs.Moves.{transition_reached}
use Rattle.accepted.proofs.Masks.{vector_reached}

record_reached : (at : ℕ) (T : Table) (p : Progress) (r : Record) → Reached at T p → allowed_kind p.kind (kind_of r) ≡ true → Fields (loading T p) r
    → Reached (at + (4 + body_length_of (kind_of r))) (with_record T r) (after_record p r)
record_reached at T p (System a b) h k f = system_reached at T p a b h k f
record_reached at T p (Task t states start) h k f = task_reached at T p t states start h f
record_reached at T p (Transition t x g y) h k f = transition_reached at T p t x g y h f
record_reached at T p (Vector g m) h k f = vector_reached at T p g m h f

abbrev pub Held : ℕ → Loading → Type 0
Held at l = Reached at l.table l.progress

pub keeps : (file : List ℕ) (at : ℕ) (l : Loading) → at < length file → Held at l → is_done (fault_at file at l) ≡ true
    → Held (at + size_at file at) (with_record_at file at l)
unfolding with_record_at
keeps file at l _ h d =
    let p : Passes file at l = passes file at l d in
    subst (λ (n : ℕ). Held (at + n) (with_record_at file at l)) (sym p.size)
    (record_reached at l.table l.progress (record_at file at) h p.allowed p.fields)

-- how the reading of a file ends
abbrev pub EndsWell : List ℕ → Type 0
EndsWell file = Ended file (fault_at file) (with_record_at file) refused_of (ended_of (length file)) Held (read_of file)

abbrev pub EndsRefused : List ℕ → Type 0
EndsRefused file = Refused file (fault_at file) (with_record_at file) refused_of (ended_of (length file)) Held (read_of file)

pub ends : (file : List ℕ) → EndsWell file ⊎ EndsRefused file
ends file = all_ends file (fault_at file) (with_record_at file) refused_of (ended_of (length file)) Held (keeps file) (loading empty_table none_came) first_reached
