-- "whether nothing is undelivered": no channel holds a message. A waiting request has been delivered.
use Rattle.std.specs.Prelude.{ℕ, Bool, ◌&&◌, eqb}
use Rattle.laws.specs.Below.{all_below}
use Rattle.state.specs.States.{task_of, gate_of, up_of, across_of, down_of}
use Rattle.state.specs.declared.State.{State}

-- nothing that a task sent to a gate or to a task, and nothing that a gate sent
unfoldable pub quiet : State → Bool
quiet s =
    all_below 16 (λ (t : ℕ). all_below 16 (λ (g : ℕ). eqb (up_of (task_of s t) g).count 0)
    && all_below 16 (λ (b : ℕ). eqb (across_of (task_of s t) b).count 0))
    && all_below 16 (λ (g : ℕ). all_below 16 (λ (b : ℕ). eqb (down_of (gate_of s g) b).count 0))
