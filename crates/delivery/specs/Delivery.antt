-- "What a delivery does", and the numbers it gives back.
use Rattle.std.specs.Prelude.{ℕ, ◌+◌, ◌-◌, ◌*◌, ◌/◌, Bool, cond, ◌&&◌, not, List, eqb, ltb, leb, get_or, set, length, Option, Some, None, Ok, Err}
use Rattle.laws.specs.Turns.{up_to}
use Rattle.answers.specs.Answers.{Answer}
use Rattle.answers.specs.declared.Refusal.{Refusal}
use Rattle.answers.specs.declared.Refusal.TheVariants.{NoChannel, ChannelEmpty, LogFull, Unsound, Excluded}
use Rattle.numbers.specs.Endpoints.{endpoint_of}
use Rattle.numbers.specs.declared.Endpoint.{Endpoint}
use Rattle.numbers.specs.declared.Endpoint.TheVariants.{Task, Gate}
use Rattle.table.specs.declared.Table.{Table}
use Rattle.soundness.specs.Sound.{sound_table}
use Rattle.channels.specs.Channels.{no_request}
use Rattle.channels.specs.declared.Request.{Request}
use Rattle.state.specs.States.{task_of, gate_of, with_task, with_gate, with_logged, pop_of}
use Rattle.state.specs.declared.State.{State}
use Rattle.channels.specs.declared.Message.{Message}
use Rattle.state.specs.declared.Link.{Link}
use Rattle.state.specs.declared.Link.TheVariants.{ToGate, FromGate, ToTask}
use Rattle.state.specs.declared.Popped.{Popped}
use Rattle.sound_state.specs.SoundState.{sound_state}
use Rattle.tasks.specs.Tasks.{at_task}
use Rattle.gates.specs.Gates.{at_gate}
use Rattle.delivery.specs.declared.Delivered.{Delivered}
use Rattle.tasks.specs.declared.Work as task
use Rattle.gates.specs.declared.Work as gate

-- what comes back, and the log's bytes then
pub record Outcome : Type 0 where
  pub state : State
  pub answer : Answer
  pub log : List ℕ

abbrev pub given_back : Outcome → Delivered
given_back o = record { state = o.state; answer = o.answer }

abbrev pub refused_at : State → Refusal → Delivered
refused_at s refusal = record { state = s; answer = Err refusal }

abbrev pub with_log : List ℕ → Delivered → Outcome
with_log log d = record { state = d.state; answer = d.answer; log = log }

-- "state and log unchanged"
abbrev pub refused : State → List ℕ → Answer → Outcome
refused s log answer = record { state = s; answer = answer; log = log }

-- "two bytes an entry (gate, vector)"
abbrev pub entered_in_log : ℕ → Request → List ℕ → List ℕ
entered_in_log at r log = set (set log (at * 2) r.gate.0) (at * 2 + 1) r.vector

-- these many entries, written behind the first `at`
unfoldable pub written : ℕ → List Request → ℕ → List ℕ → List ℕ
written at entries count log = up_to (λ (k : ℕ) (l : List ℕ). entered_in_log (at + k) (get_or entries k no_request) l) count log

-- A task's work on a delivery settled, where s is the state before and popped the state without the message.
-- "12 .. is judged over the delivery's whole work as though the log had room; 10 is looked at only after that." The log's
-- "capacity is its length divided by two, rounded down".
abbrev pub settled_at_task : State → State → List ℕ → ℕ → task.Work → Outcome
settled_at_task s popped log b w =
    cond (not w.ok) (refused s log (Err Excluded))
    (cond (ltb (length log / 2 - s.logged) w.fired) (refused s log (Err LogFull))
    (record {
      state = with_logged (with_task popped b w.task) (s.logged + w.fired);
      answer = Ok tt;
      log = written s.logged w.entries w.fired log;
    }))

abbrev pub settled_at_gate : State → State → ℕ → gate.Work → Delivered
settled_at_gate s popped g w =
    cond (not w.ok) (refused_at s Excluded) (record { state = with_gate popped g w.gate; answer = Ok tt })

-- The channel from one endpoint to another. 8: "no such channel: endpoint absent, gate to gate, or from equals to"
abbrev pub way_of : Option Endpoint → Option Endpoint → Option Link
way_of None e = None
way_of (Some (Task a)) None = None
way_of (Some (Task a)) (Some (Task b)) = cond (eqb a.0 b.0) None (Some (ToTask a b))
way_of (Some (Task t)) (Some (Gate g)) = Some (ToGate t g)
way_of (Some (Gate g)) None = None
way_of (Some (Gate g)) (Some (Task b)) = Some (FromGate g b)
way_of (Some (Gate g)) (Some (Gate h)) = None

-- "It takes the oldest message of the channel named": what is at the front, and the state popped without it.
-- From task t to gate g; no entry is written there.
module _ (vectors masks : List ℕ) (s : State) (t g : ℕ) where
  abbrev pub front_at_gate : State → Option Message → Delivered
  front_at_gate popped None = refused_at s ChannelEmpty
  front_at_gate popped (Some m) = settled_at_gate s popped g (at_gate masks (get_or vectors g 0) g t (gate_of s g) m)

  unfoldable pub delivered_at_gate : Popped State → Delivered
  delivered_at_gate taken = front_at_gate taken.after taken.front

module _ (moves masks : List ℕ) (gates : ℕ) (s : State) (log : List ℕ) where
  -- To task b.
  abbrev pub front_at_task : ℕ → State → Option Message → Outcome
  front_at_task b popped None = refused s log (Err ChannelEmpty)
  front_at_task b popped (Some m) = settled_at_task s popped log b (at_task moves gates b masks (task_of s b) m)

  unfoldable pub delivered_at_task : ℕ → Popped State → Outcome
  delivered_at_task b taken = front_at_task b taken.after taken.front

  -- The oldest message of a channel, at its receiver.
  abbrev pub along : List ℕ → Link → Outcome
  along vectors (ToGate t g) = with_log log (delivered_at_gate vectors masks s t.0 g.0 (pop_of s (ToGate t g)))
  along vectors (FromGate g b) = delivered_at_task b.0 (pop_of s (FromGate g b))
  along vectors (ToTask a b) = delivered_at_task b.0 (pop_of s (ToTask a b))

  abbrev pub way_taken : List ℕ → Option Link → Outcome
  way_taken vectors None = refused s log (Err NoChannel)
  way_taken vectors (Some link) = along vectors link

  unfoldable pub between : List ℕ → Option Endpoint → Option Endpoint → Outcome
  between vectors from to = way_taken vectors (way_of from to)

-- 11: the table, the state, and the log count against the capacity of a log of n bytes
unfoldable pub sound_for : Table → State → ℕ → Bool
sound_for T s n =
    sound_table T && (sound_state T.vectors T.masks T.tasks T.gates T.states s && leb s.logged (n / 2))

-- "Order for a delivery: 11, 8, 9, 12, 10."
unfoldable pub delivered : Table → State → List ℕ → ℕ → ℕ → Outcome
delivered T s log from to =
    cond (not (sound_for T s (length log))) (refused s log (Err Unsound))
    (between T.moves T.masks T.gates s log T.vectors
    (endpoint_of T.tasks T.gates from) (endpoint_of T.tasks T.gates to))
