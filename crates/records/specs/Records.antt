-- The bodies of the paper's table of kinds, for the four kinds of a table file.
use Rattle.std.specs.Prelude.{ℕ, ◌+◌, cond, List, eqb}
use Rattle.format.specs.Format.{byte_at, word_at, kind_at}
use Rattle.records.specs.declared.Record.{Record}
use Rattle.records.specs.declared.Record.TheVariants.{System, Task, Transition, Vector}

-- the record whose head stands at `at`; the body starts four bytes behind it
unfoldable pub record_at : List ℕ → ℕ → Record
record_at file at =
    let byte : ℕ → ℕ = λ (i : ℕ). byte_at file (at + i) in
    cond (eqb (kind_at file at) 1) (System (byte 4) (byte 5))
    (cond (eqb (kind_at file at) 2) (Task (record { 0 = byte 4 }) (byte 5) (byte 6))
    (cond (eqb (kind_at file at) 3) (Transition (record { 0 = byte 4 }) (byte 5) (record { 0 = byte 6 }) (byte 7))
    (Vector (record { 0 = byte 4 }) (word_at file (at + 5)))))
