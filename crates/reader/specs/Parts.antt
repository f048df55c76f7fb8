-- What the functions have names for. The interface does not.
use Rattle.table.specs.Tables.{empty_table}
use Rattle.table.specs.declared.Table.{Table}
use Rattle.records.specs.declared.Record.{Record}
use Rattle.reader.specs.Rules.{with_record, after_record}
use Rattle.reader.specs.declared.Loading.{Loading}
use Rattle.reader.specs.declared.Progress.{Progress}

abbrev pub loading : Table → Progress → Loading
loading T p = record { table = T; progress = p }

-- before the first record
abbrev pub none_came : Progress
none_came = record { kind = 0; came = 0; floor = 0; gate = record { 0 = 0 } }

abbrev pub loading_none : Loading
loading_none = loading empty_table none_came

-- what is read with one record more
abbrev pub with_next : Loading → Record → Loading
with_next l r = loading (with_record l.table r) (after_record l.progress r)
