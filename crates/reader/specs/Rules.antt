-- "Checks on each record, in this order" and what an accepted record adds.
use Rattle.std.specs.Prelude.{ℕ, ◌+◌, Bool, true, false, cond, ◌&&◌, ◌||◌, not, eqb, ltb, leb, get_or, Ok, Err}
use Rattle.answers.specs.Answers.{Answer}
use Rattle.answers.specs.declared.Refusal.TheVariants.{Kind, FieldRange, Order, Missing, TooMany}
use Rattle.records.specs.declared.Record.{Record}
use Rattle.records.specs.declared.Record.TheVariants.{System, Task, Transition, Vector}
use Rattle.sets.specs.Sets.{all_below_of}
use Rattle.table.specs.Tables.{count_in, cell_of, new_below, with_counts, with_states, with_move, with_vector}
use Rattle.table.specs.declared.Table.{Table}
use Rattle.reader.specs.declared.Progress.{Progress}
use Rattle.reader.specs.declared.Loading.{Loading}

-- "kind 1 to 4 and allowed here: the first is 1, no second 1, never a lower kind than before (2);
-- kind above 2 only when all tasks have come (6)"
abbrev pub allowed_kind : ℕ → ℕ → Bool
allowed_kind before k =
    (leb 1 k && leb k 4) && ((eqb before 0 && eqb k 1) || (not (eqb before 0) && (not (eqb k 1) && leb before k)))

unfoldable pub kind_fault : ℕ → Progress → ℕ → Answer
kind_fault tasks p k =
    cond (not (allowed_kind p.kind k)) (Err Kind)
    (cond (ltb 2 k && ltb p.came tasks) (Err Missing)
    (Ok tt))

-- "every number lies below the count it belongs to (a start, from or to state below that task's states), the three
-- counts lie in the bounds above, and a mask is neither 0 nor names an absent task"
unfoldable pub in_range : Table → Record → Bool
in_range T (System tasks gates) = count_in tasks && count_in gates
in_range T (Task t states start) = ltb t.0 T.tasks && (count_in states && ltb start states)
in_range T (Transition t from g to) =
    ltb t.0 T.tasks
    && (ltb from (get_or T.states t.0 0) && (ltb g.0 T.gates && ltb to (get_or T.states t.0 0)))
in_range T (Vector g mask) = ltb g.0 T.gates && (not (eqb mask 0) && all_below_of mask T.tasks)

-- "ninth vector of a gate"
unfoldable pub is_ninth : Table → Record → Bool
is_ninth T (System tasks gates) = false
is_ninth T (Task t states start) = false
is_ninth T (Transition t from g to) = false
is_ninth T (Vector g mask) = leb 8 (get_or T.vectors g.0 0)

-- "all task records in number order, then transitions strictly ascending by (task, from, gate), then vectors with
-- gates never descending .. A mask doesn't occur twice at one gate."
unfoldable pub in_order : Loading → Record → Bool
in_order l (System tasks gates) = true
in_order l (Task t states start) = eqb t.0 l.progress.came
in_order l (Transition t from g to) = leb l.progress.floor (cell_of t.0 from g.0)
in_order l (Vector g mask) = leb l.progress.gate.0 g.0 && new_below l.table.masks g.0 8 mask

-- "field ranges left to right (4); ninth vector of a gate (7); order or a repeated mask (5)"
unfoldable pub field_fault : Loading → Record → Answer
field_fault l r =
    cond (not (in_range l.table r)) (Err FieldRange)
    (cond (is_ninth l.table r) (Err TooMany)
    (cond (not (in_order l r)) (Err Order)
    (Ok tt)))

-- what an accepted record adds to the table
unfoldable pub with_record : Table → Record → Table
with_record T (System tasks gates) = with_counts T tasks gates
with_record T (Task t states start) = with_states T t.0 states start
with_record T (Transition t from g to) = with_move T t.0 from g.0 to
with_record T (Vector g mask) = with_vector T g.0 mask

-- what has come with an accepted record
unfoldable pub after_record : Progress → Record → Progress
after_record p (System tasks gates) = record { kind = 1; came = p.came; floor = p.floor; gate = p.gate }
after_record p (Task t states start) = record { kind = 2; came = t.0 + 1; floor = p.floor; gate = p.gate }
after_record p (Transition t from g to) =
    record { kind = 3; came = p.came; floor = cell_of t.0 from g.0 + 1; gate = p.gate }
after_record p (Vector g mask) = record { kind = 4; came = p.came; floor = p.floor; gate = g }
