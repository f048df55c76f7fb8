-- The channels of one list, and those of one party. The interface does not speak of them.
use Rattle.std.specs.Prelude.{ℕ, Bool, ◌&&◌, List, eqb, get_or}
use Rattle.laws.specs.Below.{all_below}
use Rattle.channels.specs.Channels.{empty1, empty3}
use Rattle.channels.specs.declared.Channel1.{Channel1}
use Rattle.channels.specs.declared.Channel3.{Channel3}
use Rattle.state.specs.States.{task_of, gate_of}
use Rattle.state.specs.declared.Task.{Task}
use Rattle.state.specs.declared.Gate.{Gate}
use Rattle.state.specs.declared.State.{State}

-- channel k of a list holds no message, by what counts a channel's messages and the channel that stands outside the list
abbrev pub channel_quiet : {C : Type 0} → (C → ℕ) → C → List C → ℕ → Bool
channel_quiet count empty l k = eqb (count (get_or l k empty)) 0

-- none of the n channels of a list does
abbrev pub channels_quiet : {C : Type 0} → (C → ℕ) → C → ℕ → List C → Bool
channels_quiet count empty n l = all_below n (channel_quiet count empty l)

abbrev pub three_quiet : List Channel3 → ℕ → Bool
three_quiet = channel_quiet (λ c. c.count) empty3

abbrev pub threes_quiet : List Channel3 → Bool
threes_quiet = channels_quiet (λ c. c.count) empty3 16

abbrev pub one_quiet : List Channel1 → ℕ → Bool
one_quiet = channel_quiet (λ c. c.count) empty1

abbrev pub ones_quiet : List Channel1 → Bool
ones_quiet = channels_quiet (λ c. c.count) empty1 16

-- nothing that a task sent, and nothing that a gate sent
abbrev pub task_quiet : Task → Bool
task_quiet p = threes_quiet p.up && ones_quiet p.across

abbrev pub gate_quiet : Gate → Bool
gate_quiet k = ones_quiet k.down

abbrev pub tasks_quiet : State → ℕ → Bool
tasks_quiet s t = task_quiet (task_of s t)

abbrev pub gates_quiet : State → ℕ → Bool
gates_quiet s g = gate_quiet (gate_of s g)
