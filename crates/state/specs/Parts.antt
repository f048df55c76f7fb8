-- What no promise of the interface cites: a task with one channel changed, a list moved up, and the state after a put (a
-- party's own puts do the sending).
use Rattle.std.specs.Prelude.{ℕ, List, [], ◌∷◌, ◌++◌, drop, set}
use Rattle.channels.specs.Channels.{no_request}
use Rattle.channels.specs.declared.Message.{Message}
use Rattle.channels.specs.declared.Request.{Request}
use Rattle.channels.specs.declared.Channel1.{Channel1}
use Rattle.channels.specs.declared.Channel3.{Channel3}
use Rattle.state.specs.States.{task_of, gate_of, with_all_up, with_all_across, with_task, with_gate, put_up, put_across, put_down}
use Rattle.state.specs.declared.Task.{Task}
use Rattle.state.specs.declared.State.{State}
use Rattle.state.specs.declared.Link.{Link}
use Rattle.state.specs.declared.Link.TheVariants.{ToGate, FromGate, ToTask}
use Rattle.state.specs.declared.Put.{Put}

abbrev pub with_up : Task → ℕ → Channel3 → Task
with_up p g c = with_all_up p (set p.up g c)

abbrev pub with_across : Task → ℕ → Channel1 → Task
with_across p b c = with_all_across p (set p.across b c)

-- a waiting list without its front
abbrev pub moved_up : List Request → List Request
moved_up l = drop 1 l ++ no_request ∷ []

abbrev pub put_of : State → Link → Message → Put State
put_of s (ToGate t g) m = let p = put_up (task_of s t.0) g.0 m in record { after = with_task s t.0 p.after; room = p.room }
put_of s (FromGate g t) m = let p = put_down (gate_of s g.0) t.0 m in record { after = with_gate s g.0 p.after; room = p.room }
put_of s (ToTask t b) m = let p = put_across (task_of s t.0) b.0 m in record { after = with_task s t.0 p.after; room = p.room }
