-- "Fresh": the state that a line starts with.
use Rattle.std.specs.Prelude.{ℕ, cond, get_or, Ok, Err}
use Rattle.laws.specs.Turns.{up_to}
use Rattle.answers.specs.declared.Refusal.TheVariants.{Unsound}
use Rattle.table.specs.declared.Table.{Table}
use Rattle.soundness.specs.Sound.{sound_table}
use Rattle.state.specs.States.{empty_state, task_of, with_task, at_state}
use Rattle.state.specs.declared.State.{State}
use Rattle.tasks.specs.Tasks.{begun, announced}
use Rattle.fresh.specs.declared.Started.{Started}

-- "All tasks at their start states and Free .. Each task in ascending order has sent READY to each gate it is ready at."
abbrev pub started_at : Table → ℕ → State → State
started_at T t s = with_task s t (announced T.moves T.gates t (begun (at_state (task_of s t) (get_or T.starts t 0)))).task

unfoldable pub fresh_state : Table → State
fresh_state T = up_to (started_at T) T.tasks empty_state

-- "for Fresh, the empty state"
unfoldable pub fresh : Table → Started
fresh T = cond (sound_table T) (record { state = fresh_state T; answer = Ok tt }) (record { state = empty_state; answer = Err Unsound })
