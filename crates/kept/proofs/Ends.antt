-- The ways a delivery ends: refused, which changes nothing, or done at a gate or at a task.
use Rattle.std.specs.Prelude.{Option, Some, None, Ok, Err}
use Prim.Native.Nat.{ℕ, ◌+◌, ◌-◌, ◌/◌, ◌<◌, ◌≤◌}
use mathlib.Core.Bool.{Bool, true, false, cond, not, true≢false}
use mathlib.Core.List.{List}
use mathlib.Core.Path.{◌≡◌, refl}
use lib.Dec.{eqb, ltb}
use lib.ListN.{get_or, length}
use borrow.Author.Tests.{ltb-true, ltb-false, eqb-false}
use Rattle.answers.specs.Answers.{is_done, Answer}
use Rattle.answers.specs.declared.Refusal.TheVariants.{NoChannel, ChannelEmpty, LogFull, Unsound, Excluded}
use Rattle.channels.specs.Channels.{empty1, popped3, front_of}
use Rattle.channels.specs.declared.Message.{Message}
use Rattle.delivery.proofs.Ways.{way_within}
use Rattle.delivery.specs.Delivery.{Outcome, with_log, refused, written, settled_at_task, settled_at_gate, way_of, front_at_gate, delivered_at_gate, front_at_task, delivered_at_task, along, way_taken, between, sound_for, delivered}
use Rattle.delivery.specs.Within.{EndWithin, LinkWithin, WayWithin}
use Rattle.gates.specs.Gates.{at_gate}
use Rattle.gates.specs.declared.Work as gate
use Rattle.numbers.specs.Endpoints.{endpoint_of}
use Rattle.numbers.specs.declared.Endpoint.TheVariants.{Task, Gate}
use Rattle.state.specs.States.{task_of, gate_of, up_of, across_of, down_of, with_task, with_gate, with_logged, with_down}
use Rattle.state.specs.Parts.{with_up, with_across}
use Rattle.state.specs.declared.Link.{Link}
use Rattle.state.specs.declared.Link.TheVariants.{ToGate, FromGate, ToTask}
use Rattle.state.specs.declared.State.{State}
use Rattle.table.specs.declared.Table.{Table}
use Rattle.tasks.specs.Tasks.{at_task}
use Rattle.tasks.specs.declared.Work as task

-- the state without the message, for each pair of parties
module _ (s : State) where
  abbrev pub up_popped : ℕ → ℕ → State
  up_popped t g = with_task s t (with_up (task_of s t) g (popped3 (up_of (task_of s t) g)))

  abbrev pub across_popped : ℕ → ℕ → State
  across_popped a b = with_task s a (with_across (task_of s a) b empty1)

  abbrev pub down_popped : ℕ → ℕ → State
  down_popped g b = with_gate s g (with_down (gate_of s g) b empty1)

-- the receiver's work on it
module _ (T : Table) (s : State) where
  abbrev pub up_work : ℕ → ℕ → gate.Work
  up_work t g = at_gate T.masks (get_or T.vectors g 0) g t (gate_of s g) (up_of (task_of s t) g).first

  abbrev pub across_work : ℕ → ℕ → task.Work
  across_work a b = at_task T.moves T.gates b T.masks (task_of s b) (across_of (task_of s a) b).first

  abbrev pub down_work : ℕ → ℕ → task.Work
  down_work g b = at_task T.moves T.gates b T.masks (task_of s b) (down_of (gate_of s g) b).first

abbrev pub done_at_task : State → State → List ℕ → ℕ → task.Work → Outcome
done_at_task s popped log b w = record {
  state = with_logged (with_task popped b w.task) (s.logged + w.fired);
  answer = Ok tt;
  log = written s.logged w.entries w.fired log;
}

abbrev pub done_at_gate : State → List ℕ → ℕ → gate.Work → Outcome
done_at_gate popped log g w = record { state = with_gate popped g w.gate; answer = Ok tt; log = log }

-- the entries of work at a task find room in the log
abbrev pub HasRoom : State → List ℕ → task.Work → Type 0
HasRoom s log w = w.fired ≤ length log / 2 - s.logged

pub data Ends (T : Table) (s : State) (log : List ℕ) : Outcome → Type 0 where
  refuses : (a : Answer) → is_done a ≡ false → Ends T s log (refused s log a)
  to_gate : (t g : ℕ) → sound_for T s (length log) ≡ true → t < T.tasks → g < T.gates
      → Ends T s log (done_at_gate (up_popped s t g) log g (up_work T s t g))
  to_task : (a b : ℕ) → sound_for T s (length log) ≡ true → a < T.tasks → b < T.tasks → ((across_of (task_of s a) b).count ≡ 0 → ⊥)
      → HasRoom s log (across_work T s a b)
      → Ends T s log (done_at_task s (across_popped s a b) log b (across_work T s a b))
  from_gate : (g b : ℕ) → sound_for T s (length log) ≡ true → g < T.gates → b < T.tasks → ((down_of (gate_of s g) b).count ≡ 0 → ⊥)
      → HasRoom s log (down_work T s g b) → Ends T s log (done_at_task s (down_popped s g b) log b (down_work T s g b))

-- who stands at an endpoint is present
pub present : (T : Table) (e : ℕ) → EndWithin T.tasks T.gates (endpoint_of T.tasks T.gates e)
present T e = turn (ltb e 16) (ltb e T.tasks) (ltb e 32) (ltb (e - 16) T.gates) refl refl
  where
    turn : (a b c d : Bool) → ltb e T.tasks ≡ b → ltb (e - 16) T.gates ≡ d
        → EndWithin T.tasks T.gates (cond a (cond b (Some (Task (record { 0 = e }))) None)
        (cond c (cond d (Some (Gate (record { 0 = e - 16 }))) None) None))
    turn true true c d p q = ltb-true e T.tasks p
    turn true false c d p q = tt
    turn false b true true p q = ltb-true (e - 16) T.gates q
    turn false b true false p q = tt
    turn false b false d p q = tt

module _ (T : Table) (s : State) (log : List ℕ) (h : sound_for T s (length log) ≡ true) where
  -- work that is settled, and a channel that may be empty
  at_gate_ends : (popped : State) (g : ℕ) (w : gate.Work) → Ends T s log (done_at_gate popped log g w)
      → Ends T s log (with_log log (settled_at_gate s popped g w))
  at_gate_ends popped g w e = turn (not w.ok)
    where
      turn : (b : Bool) → Ends T s log (with_log log (cond b (record { state = s; answer = Err Excluded })
          (record { state = with_gate popped g w.gate; answer = Ok tt })))
      turn true = refuses (Err Excluded) refl
      turn false = e

  at_task_ends : (popped : State) (b : ℕ) (w : task.Work)
      → (HasRoom s log w → Ends T s log (done_at_task s popped log b w))
      → Ends T s log (settled_at_task s popped log b w)
  at_task_ends popped b w e = turn (not w.ok) (ltb (length log / 2 - s.logged) w.fired) refl
    where
      turn : (x y : Bool) → ltb (length log / 2 - s.logged) w.fired ≡ y
          → Ends T s log (cond x (refused s log (Err Excluded))
          (cond y (refused s log (Err LogFull)) (done_at_task s popped log b w)))
      turn true y q = refuses (Err Excluded) refl
      turn false true q = refuses (Err LogFull) refl
      turn false false q = e (ltb-false (length log / 2 - s.logged) w.fired q)

  found : (n : ℕ) (m : Message) (popped : State) (b : ℕ)
      → ((n ≡ 0 → ⊥) → Ends T s log (front_at_task T.moves T.masks T.gates s log b popped (Some m)))
      → Ends T s log (front_at_task T.moves T.masks T.gates s log b popped (front_of n m))
  found n m popped b e = turn (eqb n 0) refl
    where
      turn : (x : Bool) → eqb n 0 ≡ x
          → Ends T s log (front_at_task T.moves T.masks T.gates s log b popped (cond x None (Some m)))
      turn true q = refuses (Err ChannelEmpty) refl
      turn false q = e (eqb-false n 0 q)

  found_at_gate : (n : ℕ) (m : Message) (popped : State) (t g : ℕ)
      → Ends T s log (with_log log (front_at_gate T.vectors T.masks s t g popped (Some m)))
      → Ends T s log (with_log log (front_at_gate T.vectors T.masks s t g popped (front_of n m)))
  found_at_gate n m popped t g e = turn (eqb n 0)
    where
      turn : (x : Bool) → Ends T s log (with_log log (front_at_gate T.vectors T.masks s t g popped (cond x None (Some m))))
      turn true = refuses (Err ChannelEmpty) refl
      turn false = e

  along_ends : (link : Link) → LinkWithin T.tasks T.gates link
      → Ends T s log (along T.moves T.masks T.gates s log T.vectors link)
  unfolding delivered_at_gate delivered_at_task
  along_ends (ToGate t g) w = found_at_gate (up_of (task_of s t.0) g.0).count _ (up_popped s t.0 g.0) t.0 g.0
      (at_gate_ends (up_popped s t.0 g.0) g.0 (up_work T s t.0 g.0) (to_gate t.0 g.0 h w.0 w.1))
  along_ends (FromGate g b) w = found (down_of (gate_of s g.0) b.0).count _ (down_popped s g.0 b.0) b.0 (λ n.
      at_task_ends (down_popped s g.0 b.0) b.0 (down_work T s g.0 b.0)
      (from_gate g.0 b.0 h w.0 w.1 n))
  along_ends (ToTask a b) w = found (across_of (task_of s a.0) b.0).count _ (across_popped s a.0 b.0) b.0 (λ n.
      at_task_ends (across_popped s a.0 b.0) b.0 (across_work T s a.0 b.0)
      (to_task a.0 b.0 h w.0 w.1 n))

  way_ends : (way : Option Link) → WayWithin T.tasks T.gates way → Ends T s log (way_taken T.moves T.masks T.gates s log T.vectors way)
  way_ends None w = refuses (Err NoChannel) refl
  way_ends (Some link) w = along_ends link w

pub ends : (T : Table) (s : State) (log : List ℕ) (from to : ℕ) → Ends T s log (delivered T s log from to)
unfolding delivered between
ends T s log from to = turn (sound_for T s (length log)) refl
  where
    turn : (b : Bool) → sound_for T s (length log) ≡ b
        → Ends T s log (cond (not b) (refused s log (Err Unsound))
        (between T.moves T.masks T.gates s log T.vectors (endpoint_of T.tasks T.gates from) (endpoint_of T.tasks T.gates to)))
    turn true h = way_ends T s log h (way_of (endpoint_of T.tasks T.gates from) (endpoint_of T.tasks T.gates to))
        (way_within T.tasks T.gates (endpoint_of T.tasks T.gates from) (endpoint_of T.tasks T.gates to) (present T from) (present T to))
    turn false h = refuses (Err Unsound) refl

unchanged : (T : Table) (s : State) (log : List ℕ) (o : Outcome) → Ends T s log o → is_done o.answer ≡ false
    → (o.state ≡ s) × (o.log ≡ log)
unchanged T s log _ (refuses a n) d = (refl, refl)
unchanged T s log _ (to_gate t g h x y) d = absurd (true≢false d)
unchanged T s log _ (to_task a b h x y n r) d = absurd (true≢false d)
unchanged T s log _ (from_gate g b h x y n r) d = absurd (true≢false d)

-- "state and log unchanged"
pub refused_changes_nothing : (T : Table) (s : State) (log : List ℕ) (from to : ℕ)
    → is_done (delivered T s log from to).answer ≡ false
    → ((delivered T s log from to).state ≡ s) × ((delivered T s log from to).log ≡ log)
refused_changes_nothing T s log from to = unchanged T s log (delivered T s log from to) (ends T s log from to)
