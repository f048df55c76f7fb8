-- What the definitions say of some deliveries of the paper's worked run.
use Rattle.std.specs.Prelude.{Some}
use Prim.Native.Nat.{ℕ}
use mathlib.Core.Bool.{true, false}
use mathlib.Core.List.{List, [], ◌∷◌}
use mathlib.Core.Path.{◌≡◌, refl}
use lib.ListN.{get_or, take}
use Rattle.answers.specs.Answers.{is_done}
use Rattle.laws.specs.Below.{all_below, first_from}
use Rattle.laws.specs.Each.{all_from}
use Rattle.numbers.specs.Endpoints.{endpoint_of}
use Rattle.format.specs.Format.{head_fault}
use Rattle.format.specs.Walk.{walk}
use Rattle.records.specs.Records.{record_at}
use Rattle.table.specs.Tables.{new_below}
use Rattle.table.specs.declared.Table.{Table}
use Rattle.reader.specs.Rules.{kind_fault, in_range, is_ninth, in_order, field_fault, with_record, after_record}
use Rattle.reader.specs.Reader.{read_of, fault_at, with_record_at, ended_of}
use Rattle.soundness.specs.Sound.{moves_sound, sound_table}
use Rattle.sound_state.specs.SoundState.{task_sound, gate_sound, sound_state}
use Rattle.state.specs.States.{task_of, gate_of, down_of, pop_of}
use Rattle.state.specs.declared.Link.{Link}
use Rattle.state.specs.declared.Link.TheVariants.{ToGate}
use Rattle.tasks.specs.Tasks.{announced, sent_below, handled, list_handled, at_task}
use Rattle.gates.specs.Gates.{searched, at_gate}
use Rattle.delivery.specs.Delivery.{Outcome, written, way_of, delivered_at_gate, delivered_at_task, between, sound_for, delivered}
use Rattle.fresh.specs.Fresh.{fresh_state, fresh}
use Rattle.line.specs.Runs.{run, run_from}
use Rattle.cases.specs.TableE.{table_e, schedule}

abbrev pub table_of_e : Table
table_of_e = (read_of table_e).table

-- a log of two entries, whose bytes are 9 before
abbrev pub before : List ℕ
before = 9 ∷ 9 ∷ 9 ∷ 9 ∷ []

-- the line after n deliveries of the schedule, and after one more
abbrev pub after : ℕ → Outcome
after n = run_from table_of_e before (take n schedule)

abbrev pub next : ℕ → ℕ → ℕ → Outcome
next n from to = delivered table_of_e (after n).state (after n).log from to

-- the way of the second delivery
abbrev pub second : Link
second = ToGate (record { 0 = 1 }) (record { 0 = 0 })

pub record Worked : Type 0 where
  -- 0-16 is done, and 16-17 is refused
  pub first_done : is_done (next 0 0 16).answer ≡ true
  pub other_refused : is_done (next 0 16 17).answer ≡ false
  -- the second, 1-16, makes gate 0 send a LOCK to task 0, where popping its message sends nothing
  pub second_way : way_of (endpoint_of table_of_e.tasks table_of_e.gates 1) (endpoint_of table_of_e.tasks table_of_e.gates 16) ≡ Some second
  pub second_popped : (down_of (gate_of (pop_of (after 1).state second).after 0) 0).count ≡ 0
  pub second_sends : (down_of (gate_of (next 1 1 16).state 0) 0).count ≡ 1
  -- the eighth, 1-2, writes an entry of gate 1
  pub eighth_before : get_or (after 7).log 0 0 ≡ 9
  pub eighth_writes : get_or (next 7 1 2).log 0 0 ≡ 1
  -- the ninth, 2-1, moves task 1
  pub ninth_before : (task_of (after 8).state 1).state ≡ 0
  pub ninth_moves : (task_of (next 8 2 1).state 1).state ≡ 1

pub worked : Worked
unfolding all_below first_from all_from head_fault walk record_at new_below kind_fault in_range is_ninth in_order field_fault with_record after_record fault_at with_record_at ended_of moves_sound sound_table task_sound gate_sound sound_state announced sent_below handled list_handled at_task searched at_gate written delivered_at_gate delivered_at_task between sound_for delivered fresh_state fresh run
worked = record {
  first_done = refl;
  other_refused = refl;
  second_way = refl;
  second_popped = refl;
  second_sends = refl;
  eighth_before = refl;
  eighth_writes = refl;
  ninth_before = refl;
  ninth_moves = refl;
}
