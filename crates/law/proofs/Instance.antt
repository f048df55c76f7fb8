-- The law has instances: the paper's table E is accepted, its 13 deliveries fire vector 0 of gate 1 and come to rest, and
-- the law holds of that run.
use Rattle.std.specs.Prelude.{Ok}
use Prim.Native.Nat.{ℕ}
use mathlib.Core.Bool.{true, false}
use mathlib.Core.List.{List, [], ◌∷◌}
use mathlib.Core.Path.{◌≡◌, refl}
use Rattle.laws.specs.Below.{all_below, first_from}
use Rattle.laws.specs.Each.{all_from}
use Rattle.format.specs.Format.{head_fault}
use Rattle.format.specs.Walk.{walk}
use Rattle.records.specs.Records.{record_at}
use Rattle.table.specs.Tables.{new_below}
use Rattle.table.specs.declared.Table.{Table}
use Rattle.reader.specs.Rules.{kind_fault, in_range, is_ninth, in_order, field_fault, with_record, after_record}
use Rattle.reader.specs.Reader.{read_of, fault_at, with_record_at, ended_of}
use Rattle.soundness.specs.Sound.{moves_sound, sound_table}
use Rattle.sound_state.specs.SoundState.{task_sound, gate_sound, sound_state}
use Rattle.state.specs.States.{task_of}
use Rattle.tasks.specs.Tasks.{announced, sent_below, handled, list_handled, at_task}
use Rattle.gates.specs.Gates.{searched, at_gate}
use Rattle.delivery.specs.Delivery.{Outcome, written, delivered_at_gate, delivered_at_task, between, sound_for, delivered}
use Rattle.fresh.specs.Fresh.{fresh_state, fresh}
use Rattle.quiet.specs.Quiet.{quiet}
use Rattle.machine.specs.Machine.{enabled}
use Rattle.line.specs.Law.{Law}
use Rattle.line.specs.Runs.{run, run_from}
use Rattle.cases.specs.TableE.{table_e, schedule}
use Rattle.law.proofs.Law.{law}

abbrev table_of_e : Table
table_of_e = (read_of table_e).table

-- a log of two entries, whose bytes are 9 before
abbrev before : List ℕ
before = 9 ∷ 9 ∷ 9 ∷ 9 ∷ []

abbrev after : Outcome
after = run_from table_of_e before schedule

pub accepted_e : (read_of table_e).answer ≡ Ok tt
unfolding all_below first_from head_fault walk record_at new_below kind_fault in_range is_ninth in_order field_fault with_record after_record fault_at with_record_at ended_of
accepted_e = refl

-- what comes of the run: one entry, gate 1 and vector 0, no other byte changed, and nothing undelivered
pub record Rests (o : Outcome) : Type 0 where
  pub entries : o.state.logged ≡ 1
  pub log_is : o.log ≡ 1 ∷ 0 ∷ 9 ∷ 9 ∷ []
  pub quiet_is : quiet o.state ≡ true

pub rests_e : Rests after
unfolding all_below first_from all_from head_fault walk record_at new_below kind_fault in_range is_ninth in_order field_fault with_record after_record fault_at with_record_at ended_of moves_sound sound_table task_sound gate_sound sound_state announced sent_below handled list_handled at_task searched at_gate written delivered_at_gate delivered_at_task between sound_for delivered fresh_state fresh quiet run
rests_e = record { entries = refl; log_is = refl; quiet_is = refl }

pub law_e : Law table_of_e before after.state after.log
law_e = law table_e before accepted_e schedule

-- the run is quiet, so the closing sentence speaks of it
pub none_ready_e : (g v : ℕ) → enabled table_of_e (λ t. (task_of after.state t).state) g v ≡ false
none_ready_e = law_e.none_ready rests_e.quiet_is
