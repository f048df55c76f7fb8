-- The paper's cases hold of the definitions.
use mathlib.Core.Path.{refl}
use Rattle.laws.specs.Below.{all_below, first_from}
use Rattle.format.specs.Format.{head_fault}
use Rattle.format.specs.Walk.{walk}
use Rattle.records.specs.Records.{record_at}
use Rattle.table.specs.Tables.{new_below}
use Rattle.reader.specs.Rules.{kind_fault, in_range, is_ninth, in_order, field_fault, with_record, after_record}
use Rattle.reader.specs.Reader.{fault_at, with_record_at, ended_of}
use Rattle.soundness.specs.Sound.{moves_sound, sound_table}
use Rattle.laws.specs.Each.{all_from}
use Rattle.sound_state.specs.SoundState.{task_sound, gate_sound, sound_state}
use Rattle.tasks.specs.Tasks.{announced, sent_below, handled, list_handled, at_task}
use Rattle.gates.specs.Gates.{searched, at_gate}
use Rattle.delivery.specs.Delivery.{written, delivered_at_gate, delivered_at_task, between, sound_for, delivered}
use Rattle.fresh.specs.Fresh.{fresh_state, fresh}
use Rattle.quiet.specs.Quiet.{quiet}
use Rattle.line.specs.Runs.{run}
use Rattle.line.specs.Answered.{answers}
use Rattle.cases.specs.Paper.{cases, AllHold}

pub all_hold : AllHold cases
unfolding all_below head_fault walk record_at new_below kind_fault in_range is_ninth in_order field_fault with_record after_record fault_at with_record_at ended_of cases moves_sound sound_table first_from all_from task_sound gate_sound sound_state announced sent_below handled list_handled at_task searched at_gate written delivered_at_gate delivered_at_task between sound_for delivered fresh_state fresh quiet run answers
all_hold = refl
