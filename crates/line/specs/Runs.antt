-- A line from Fresh on, through any deliveries.
use Rattle.std.specs.Prelude.{List, [], ◌∷◌, ℕ}
use Rattle.table.specs.declared.Table.{Table}
use Rattle.schedule.specs.declared.Delivery.{Delivery}
use Rattle.delivery.specs.Delivery.{Outcome, delivered}
use Rattle.fresh.specs.Fresh.{fresh}

-- "start fresh", with a log whose bytes may be any
abbrev pub line_begun : Table → List ℕ → Outcome
line_begun T log = record { state = (fresh T).state; answer = (fresh T).answer; log = log }

-- "make any deliveries in any order, refused ones among them, each on the state and log the last one left"
unfoldable pub run : Table → Outcome → List Delivery → Outcome
run T o [] = o
run T o (d ∷ deliveries) = run T (delivered T o.state o.log d.from d.to) deliveries

abbrev pub run_from : Table → List ℕ → List Delivery → Outcome
run_from T log deliveries = run T (line_begun T log) deliveries
