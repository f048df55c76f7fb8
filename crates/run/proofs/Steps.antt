-- A delivery by its answer: what is stored when it is done.
use Prim.Native.Nat.{ℕ, ◌-◌, ◌/◌}
use mathlib.Core.Bool.{Bool, true, false, cond, not, true≢false}
use mathlib.Core.List.{List}
use mathlib.Core.Path.{◌≡◌, refl, sym}
use lib.Dec.{eqb, ltb}
use lib.ListN.{get_or, length}
use Rattle.std.proofs.lemmas.List.{set_comm, get_or-set_other}
use Rattle.std.specs.Prelude.{◌≢◌, Some, None, Ok, Err}
use Rattle.answers.specs.Answers.{is_done, Answer}
use Rattle.answers.specs.declared.Refusal.TheVariants.{LogFull, Excluded}
use Rattle.numbers.specs.declared.GateNo.{GateNo}
use Rattle.numbers.specs.declared.TaskNo.{TaskNo}
use Rattle.channels.specs.declared.Channel1.{Channel1}
use Rattle.channels.specs.declared.Channel3.{Channel3}
use Rattle.channels.specs.declared.Message.{Message}
use Rattle.state.specs.States.{task_of, gate_of, up_of, across_of, down_of, no_task, with_task, with_gate, with_logged, pop_up, pop_across, pop_down, pop_of}
use Rattle.state.specs.declared.Link.TheVariants.{ToGate, FromGate, ToTask}
use Rattle.state.specs.declared.Gate.{Gate}
use Rattle.state.specs.declared.State.{State}
use Rattle.state.specs.declared.Task.{Task}
use Rattle.tasks.specs.Tasks.{at_task}
use Rattle.tasks.specs.declared.Work as task
use Rattle.gates.specs.Gates.{at_gate}
use Rattle.gates.specs.declared.Work as gate
use Rattle.delivery.specs.Delivery.{refused, refused_at, front_at_gate, delivered_at_gate, front_at_task, delivered_at_task}
use Rattle.kept.proofs.Ends.{done_at_task}
use Rattle.run.specs.Parts.{answered, gate_stored, task_stored, received}

-- what is done has found room in the log
pub answered_room : (empty ok full : Bool) → is_done (answered empty ok full) ≡ true → full ≡ false
unfolding answered
answered_room true ok full d = absurd (true≢false (sym d))
answered_room false false full d = absurd (true≢false (sym d))
answered_room false true true d = absurd (true≢false (sym d))
answered_room false true false d = refl

module _ (vectors masks : List ℕ) (s : State) where
  abbrev pub gate_work : ℕ → ℕ → Message → gate.Work
  gate_work t g m = at_gate masks (get_or vectors g 0) g t (gate_of s g) m

  gate_front : (popped : State) (t g : ℕ) (m : Message) (empty : Bool)
      → front_at_gate vectors masks s t g popped (cond empty None (Some m))
      ≡ gate_stored s popped g (gate_work t g m) (answered empty (gate_work t g m).ok false)
  unfolding answered
  gate_front popped t g m true = refl
  gate_front popped t g m false = turn (gate_work t g m).ok
    where
      turn : (ok : Bool)
          → cond (not ok) (refused_at s Excluded) (record { state = with_gate popped g (gate_work t g m).gate; answer = Ok tt })
          ≡ gate_stored s popped g (gate_work t g m) (cond (not ok) (Err Excluded) (Ok tt))
      turn true = refl
      turn false = refl

  pub to_gate_is : (t : TaskNo) (g : GateNo)
      → let c = up_of (task_of s t.0) g.0 in let w = gate_work t.0 g.0 c.first in
      delivered_at_gate vectors masks s t.0 g.0 (pop_of s (ToGate t g))
      ≡ gate_stored s (with_task s t.0 (pop_up (task_of s t.0) g.0).after) g.0 w (answered (eqb c.count 0) w.ok false)
  unfolding delivered_at_gate
  to_gate_is t g =
      let c : Channel3 = up_of (task_of s t.0) g.0 in
      gate_front (with_task s t.0 (pop_up (task_of s t.0) g.0).after) t.0 g.0 c.first (eqb c.count 0)

module _ (moves masks : List ℕ) (gates : ℕ) (s : State) (log : List ℕ) where
  abbrev pub task_work : ℕ → Message → task.Work
  task_work b m = at_task moves gates b masks (task_of s b) m

  abbrev pub judged : ℕ → Channel1 → Answer
  judged b c = let w = task_work b c.first in answered (eqb c.count 0) w.ok (ltb (length log / 2 - s.logged) w.fired)

  pub received_answer : (b : ℕ) (c : Channel1) → (received moves masks gates s log b c).answer ≡ judged b c
  received_answer b c = turn (judged b c)
    where
      turn : (a : Answer) → (task_stored s s log b (task_work b c.first) a).answer ≡ a
      turn (Ok x) = refl
      turn (Err r) = refl

  task_front : (popped : State) (b : ℕ) (m : Message) (empty : Bool)
      → front_at_task moves masks gates s log b popped (cond empty None (Some m))
      ≡ task_stored s popped log b (task_work b m) (answered empty (task_work b m).ok (ltb (length log / 2 - s.logged) (task_work b m).fired))
  unfolding answered
  task_front popped b m true = refl
  task_front popped b m false = turn (task_work b m).ok (ltb (length log / 2 - s.logged) (task_work b m).fired)
    where
      turn : (ok full : Bool)
          → cond (not ok) (refused s log (Err Excluded)) (cond full (refused s log (Err LogFull)) (done_at_task s popped log b (task_work b m)))
          ≡ task_stored s popped log b (task_work b m) (cond (not ok) (Err Excluded) (cond full (Err LogFull) (Ok tt)))
      turn true true = refl
      turn true false = refl
      turn false full = refl

  pub from_gate_is : (g : GateNo) (b : TaskNo)
      → let c = down_of (gate_of s g.0) b.0 in
      delivered_at_task moves masks gates s log b.0 (pop_of s (FromGate g b))
      ≡ task_stored s (with_gate s g.0 (pop_down (gate_of s g.0) b.0).after) log b.0 (task_work b.0 c.first) (judged b.0 c)
  unfolding delivered_at_task
  from_gate_is g b =
      let c : Channel1 = down_of (gate_of s g.0) b.0 in
      task_front (with_gate s g.0 (pop_down (gate_of s g.0) b.0).after) b.0 c.first (eqb c.count 0)

  pub to_task_is : (a b : TaskNo)
      → let c = across_of (task_of s a.0) b.0 in
      delivered_at_task moves masks gates s log b.0 (pop_of s (ToTask a b))
      ≡ task_stored s (with_task s a.0 (pop_across (task_of s a.0) b.0).after) log b.0 (task_work b.0 c.first) (judged b.0 c)
  unfolding delivered_at_task
  to_task_is a b =
      let c : Channel1 = across_of (task_of s a.0) b.0 in
      task_front (with_task s a.0 (pop_across (task_of s a.0) b.0).after) b.0 c.first (eqb c.count 0)

-- a task that has stored its work does not touch what another sent it
pub emptied_after : (s : State) (a b : ℕ) (w : Task) (n : ℕ) → a ≢ b
    → with_task (with_logged (with_task s b w) n) a (pop_across (task_of (with_task s b w) a) b).after
    ≡ with_logged (with_task (with_task s a (pop_across (task_of s a) b).after) b w) n
emptied_after s a b w n h =
    rw (get_or-set_other s.tasks b a w no_task h, set_comm s.tasks b a w (pop_across (task_of s a) b).after (λ e. h (sym e)))

-- nor does it touch what a gate sent it
pub emptied_gate : (s : State) (g b : ℕ) (w : Task) (k : Gate) (n : ℕ)
    → with_gate (with_logged (with_task s b w) n) g k ≡ with_logged (with_task (with_gate s g k) b w) n
emptied_gate s g b w k n = refl
