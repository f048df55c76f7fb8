-- "LOCKs of gate g, travelling or waiting, plus results on the way to g", counted over the 16 tasks and the 16 gates.
use Rattle.std.specs.Prelude.{ℕ, ◌+◌, eqb, take}
use Rattle.channels.specs.declared.Request.{Request}
use Rattle.state.specs.States.{task_of, gate_of, up_of, across_of, down_of}
use Rattle.state.specs.declared.State.{State}
use Rattle.protocol.specs.Counts.{count_of, sum_below, is_lock_of, is_result}
use Rattle.line.specs.Contents.{messages1, messages3}

-- the LOCKs that travel to a gate, from a gate and between tasks; those that wait; the results
abbrev pub tokens : State → ℕ → ℕ
tokens s g =
    sum_below 16 (λ (t : ℕ). sum_below 16 (λ (x : ℕ). count_of (is_lock_of g) (messages3 (up_of (task_of s t) x))))
    + (sum_below 16 (λ (x : ℕ). sum_below 16 (λ (t : ℕ). count_of (is_lock_of g) (messages1 (down_of (gate_of s x) t))))
    + (sum_below 16 (λ (a : ℕ). sum_below 16 (λ (b : ℕ). count_of (is_lock_of g) (messages1 (across_of (task_of s a) b))))
    + (sum_below 16 (λ (t : ℕ). count_of (λ (r : Request). eqb r.gate.0 g) (take (task_of s t).count (task_of s t).waiting))
    + sum_below 16 (λ (t : ℕ). count_of is_result (messages3 (up_of (task_of s t) g))))))
