-- "The state": its parts, and the state with one part changed.
use Rattle.std.specs.Prelude.{ℕ, ◌+◌, ◌-◌, cond, List, [], ◌∷◌, ◌++◌, ltb, get_or, set, drop, replicate}
use Rattle.channels.specs.Channels.{no_request, front_of, empty1, empty3, popped3, put1, put3}
use Rattle.channels.specs.declared.Request.{Request}
use Rattle.channels.specs.declared.Message.{Message}
use Rattle.channels.specs.declared.Channel1.{Channel1}
use Rattle.channels.specs.declared.Channel3.{Channel3}
use Rattle.state.specs.declared.Mode.{Mode}
use Rattle.state.specs.declared.Mode.TheVariants.{Free}
use Rattle.state.specs.declared.Deal.TheVariants.{Idle}
use Rattle.state.specs.declared.Task.{Task}
use Rattle.state.specs.declared.Gate.{Gate}
use Rattle.state.specs.declared.State.{State}
use Rattle.state.specs.declared.Link.{Link}
use Rattle.state.specs.declared.Link.TheVariants.{ToGate, FromGate, ToTask}
use Rattle.state.specs.declared.Popped.{Popped}
use Rattle.state.specs.declared.Put.{Put}

-- "An empty task is at state 0, Free, nothing waiting"
abbrev pub empty_task : Task
empty_task =
    record { state = 0; mode = Free; count = 0; waiting = replicate 16 no_request; up = replicate 16 empty3; across = replicate 16 empty1 }

-- "an empty gate is Idle, no offers. The empty state has all parties and channels empty and log count 0."
abbrev pub empty_gate : Gate
empty_gate = record { offers = 0; deal = Idle; down = replicate 16 empty1 }

abbrev pub empty_state : State
empty_state = record { tasks = replicate 16 empty_task; gates = replicate 16 empty_gate; logged = 0 }

-- what stands outside the 16 tasks and the 16 gates, and has no room
abbrev pub no_task : Task
no_task = record { state = 0; mode = Free; count = 0; waiting = []; up = []; across = [] }

abbrev pub no_gate : Gate
no_gate = record { offers = 0; deal = Idle; down = [] }

abbrev pub task_of : State → ℕ → Task
task_of s t = get_or s.tasks t no_task

abbrev pub gate_of : State → ℕ → Gate
gate_of s g = get_or s.gates g no_gate

-- a party's channel to a gate, to a task
abbrev pub up_of : Task → ℕ → Channel3
up_of p g = get_or p.up g empty3

abbrev pub across_of : Task → ℕ → Channel1
across_of p b = get_or p.across b empty1

abbrev pub down_of : Gate → ℕ → Channel1
down_of k b = get_or k.down b empty1

-- a state, a task and a gate with one part changed
abbrev pub with_task : State → ℕ → Task → State
with_task s t p = record { tasks = set s.tasks t p; gates = s.gates; logged = s.logged }

abbrev pub with_gate : State → ℕ → Gate → State
with_gate s g k = record { tasks = s.tasks; gates = set s.gates g k; logged = s.logged }

abbrev pub with_logged : State → ℕ → State
with_logged s n = record { tasks = s.tasks; gates = s.gates; logged = n }

abbrev pub at_state : Task → ℕ → Task
at_state p x = record { state = x; mode = p.mode; count = p.count; waiting = p.waiting; up = p.up; across = p.across }

abbrev pub with_mode : Task → Mode → Task
with_mode p m = record { state = p.state; mode = m; count = p.count; waiting = p.waiting; up = p.up; across = p.across }

abbrev pub with_waiting : Task → ℕ → List Request → Task
with_waiting p n l = record { state = p.state; mode = p.mode; count = n; waiting = l; up = p.up; across = p.across }

abbrev pub with_all_up : Task → List Channel3 → Task
with_all_up p l = record { state = p.state; mode = p.mode; count = p.count; waiting = p.waiting; up = l; across = p.across }

abbrev pub with_all_across : Task → List Channel1 → Task
with_all_across p l = record { state = p.state; mode = p.mode; count = p.count; waiting = p.waiting; up = p.up; across = l }

abbrev pub with_down : Gate → ℕ → Channel1 → Gate
with_down k b c = record { offers = k.offers; deal = k.deal; down = set k.down b c }

-- the waiting list with a request put last, which finds room for 16, and without its front
abbrev pub with_last : Task → Request → Task
with_last p r = cond (ltb p.count 16) (with_waiting p (p.count + 1) (set p.waiting p.count r)) p

abbrev pub without_front : Task → Task
without_front p = with_waiting p (p.count - 1) (drop 1 p.waiting ++ no_request ∷ [])

-- a party without the oldest message of a channel, and that message; a number outside 16 finds no channel
abbrev pub pop_up : Task → ℕ → Popped Task
pop_up p g = let c = up_of p g in record { after = with_all_up p (set p.up g (popped3 c)); front = front_of c.count c.first }

abbrev pub pop_across : Task → ℕ → Popped Task
pop_across p b = let c = across_of p b in record { after = with_all_across p (set p.across b empty1); front = front_of c.count c.first }

abbrev pub pop_down : Gate → ℕ → Popped Gate
pop_down k b = let c = down_of k b in record { after = with_down k b empty1; front = front_of c.count c.first }

-- a party with a message put last in a channel, and whether there was room
abbrev pub put_up : Task → ℕ → Message → Put Task
put_up p g m = record { after = with_all_up p (set p.up g (put3 (up_of p g) m)); room = ltb (up_of p g).count 3 }

abbrev pub put_across : Task → ℕ → Message → Put Task
put_across p b m = record { after = with_all_across p (set p.across b (put1 (across_of p b) m)); room = ltb (across_of p b).count 1 }

abbrev pub put_down : Gate → ℕ → Message → Put Gate
put_down k b m = record { after = with_down k b (put1 (down_of k b) m); room = ltb (down_of k b).count 1 }

-- the state after its party's pop
abbrev pub pop_of : State → Link → Popped State
pop_of s (ToGate t g) = let p = pop_up (task_of s t.0) g.0 in record { after = with_task s t.0 p.after; front = p.front }
pop_of s (FromGate g t) = let p = pop_down (gate_of s g.0) t.0 in record { after = with_gate s g.0 p.after; front = p.front }
pop_of s (ToTask t b) = let p = pop_across (task_of s t.0) b.0 in record { after = with_task s t.0 p.after; front = p.front }
