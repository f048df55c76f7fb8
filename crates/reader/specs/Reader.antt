-- What comes back for a table file.
use Rattle.std.specs.Prelude.{ℕ, cond, ◌||◌, List, eqb, ltb, length, Ok, Err}
use Rattle.answers.specs.Answers.{is_done, Answer}
use Rattle.answers.specs.declared.Refusal.TheVariants.{Missing}
use Rattle.format.specs.Format.{kind_at, head_fault}
use Rattle.format.specs.Walk.{walk}
use Rattle.records.specs.Records.{record_at}
use Rattle.table.specs.Tables.{empty_table}
use Rattle.reader.specs.declared.Loading.{Loading}
use Rattle.reader.specs.Rules.{kind_fault, field_fault, with_record, after_record}
use Rattle.reader.specs.declared.Loaded.{Loaded}

-- the first fault of the record at a place, after those before it
unfoldable pub fault_at : List ℕ → ℕ → Loading → Answer
fault_at file at l =
    let head = head_fault file at (kind_fault l.table.tasks l.progress (kind_at file at)) in
    cond (is_done head) (field_fault l (record_at file at)) head

-- what is read with the record at a place
unfoldable pub with_record_at : List ℕ → ℕ → Loading → Loading
with_record_at file at l = let r = record_at file at in record { table = with_record l.table r; progress = after_record l.progress r }

-- "empty table, place"
abbrev pub refused_of : Answer → ℕ → Loaded
refused_of answer place = record { table = empty_table; answer = answer; place = place }

-- "At the end: tasks or system record missing (6)", and then the place is the file's length
unfoldable pub ended_of : ℕ → Loading → Loaded
ended_of n l =
    cond (eqb l.progress.kind 0 || ltb l.progress.came l.table.tasks)
    (refused_of (Err Missing) n)
    (record { table = l.table; answer = Ok tt; place = n })

-- from the first byte, with the empty table, before any record has come
abbrev pub read_of : List ℕ → Loaded
read_of file =
    walk file (fault_at file) (with_record_at file) refused_of (ended_of (length file)) (length file) 0
    (record { table = empty_table; progress = record { kind = 0; came = 0; floor = 0; gate = record { 0 = 0 } } })
