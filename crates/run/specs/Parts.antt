-- The parts of a run that have a function of their own. The interface does not speak of them.
use Rattle.std.specs.Prelude.{ℕ, ◌+◌, ◌-◌, ◌/◌, Bool, cond, not, List, eqb, ltb, length, Ok, Err}
use Rattle.answers.specs.Answers.{is_done, Answer}
use Rattle.answers.specs.declared.Refusal.TheVariants.{ChannelEmpty, LogFull, Excluded}
use Rattle.channels.specs.declared.Channel1.{Channel1}
use Rattle.state.specs.States.{task_of, with_task, with_gate, with_logged}
use Rattle.state.specs.declared.State.{State}
use Rattle.tasks.specs.Tasks.{at_task}
use Rattle.tasks.specs.declared.Work as task
use Rattle.gates.specs.declared.Work as gate
use Rattle.delivery.specs.Delivery.{Outcome, refused, written}
use Rattle.delivery.specs.declared.Delivered.{Delivered}

-- after 11 and 8, in this order: 9 of an empty channel, 12 where the receiver's work is not allowed, 10 of a full log
unfoldable pub answered : Bool → Bool → Bool → Answer
answered empty ok full = cond empty (Err ChannelEmpty) (cond (not ok) (Err Excluded) (cond full (Err LogFull) (Ok tt)))

-- what is done is stored, where popped is the state without the message: a gate's work, and a task's with its entries
abbrev pub gate_stored : State → State → ℕ → gate.Work → Answer → Delivered
gate_stored s popped g w answer =
    cond (is_done answer) (record { state = with_gate popped g w.gate; answer = answer }) (record { state = s; answer = answer })

abbrev pub task_stored : State → State → List ℕ → ℕ → task.Work → Answer → Outcome
task_stored s popped log b w answer =
    cond (is_done answer) (record {
      state = with_logged (with_task popped b w.task) (s.logged + w.fired);
      answer = answer;
      log = written s.logged w.entries w.fired log;
    }) (refused s log answer)

-- the message of a channel at task b, with the channel as it was
abbrev pub received : List ℕ → List ℕ → ℕ → State → List ℕ → ℕ → Channel1 → Outcome
received moves masks gates s log b c =
    let w = at_task moves gates b masks (task_of s b) c.first in
    task_stored s s log b w (answered (eqb c.count 0) w.ok (ltb (length log / 2 - s.logged) w.fired))
