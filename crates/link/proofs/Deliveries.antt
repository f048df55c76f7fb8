-- A delivery on a safe line: no such channel, an empty one, or a message that is delivered or finds the log full. The
-- line stays safe.
use Rattle.std.specs.Prelude.{Option, Some, None, Err}
use Prim.Native.Nat.{ℕ, ◌*◌, ◌<◌, ◌≤◌}
use mathlib.Core.Bool.{Bool, cond, false, true}
use mathlib.Core.List.{List}
use mathlib.Core.Logic.{◌≢◌, ⊎_elim}
use mathlib.Core.Path.{◌≡◌, refl, subst, sym}
use native.Mathlib.Omega.{arith}
use lib.Dec.{eqb}
use lib.ListN.{length}
use borrow.Author.Tests.{eq-eqb, eqb-false}
use Rattle.answers.specs.declared.Refusal.TheVariants.{NoChannel, ChannelEmpty}
use Rattle.std.proofs.lemmas.Bool.{cases_eq}
use Rattle.numbers.specs.Endpoints.{endpoint_of}
use Rattle.numbers.specs.declared.Endpoint.{Endpoint}
use Rattle.numbers.specs.declared.Endpoint.TheVariants.{Gate, Task}
use Rattle.table.specs.declared.Table.{Table}
use Rattle.state.specs.States.{across_of, down_of, gate_of, task_of, up_of}
use Rattle.state.specs.declared.Link.TheVariants.{FromGate, ToGate, ToTask}
use Rattle.state.specs.declared.State.{State}
use Rattle.delivery.specs.Delivery.{Outcome, along, between, delivered, refused, sound_for, delivered_at_gate, delivered_at_task, way_of, way_taken}
use Rattle.delivery.specs.Within.{EndWithin}
use Rattle.fresh.specs.Fresh.{fresh_state}
use Rattle.kept.proofs.Ends.{present}
use Rattle.kept.proofs.Fresh.{fresh_all_sound, fresh_sized}
use Rattle.kept.proofs.Kept.{outcome_sized, outcome_sound}
use Rattle.kept.proofs.States.{SizedState, StateRules, sound_says, state_rules}
use Rattle.protocol.proofs.Invariant.{Invariant}
use Rattle.link.proofs.Fresh.{fresh_invariant}
use Rattle.link.proofs.Made.{Made, done, full}
use Rattle.link.proofs.Tables.{Lawful, plan_of}
use Rattle.link.proofs.ToGate.{made_to_gate}
use Rattle.link.proofs.ToTask.{made_from_gate, made_to_task}
use Rattle.link.proofs.View.{line_of}

module _ (T : Table) where
  -- what holds of the line before every delivery
  pub record Safe (s : State) (log : List ℕ) : Type 0 where
    pub sized : SizedState s
    pub sound : sound_for T s (length log) ≡ true
    pub inv : Invariant (plan_of T) (line_of s log)

  pub safe_rules : (s : State) (log : List ℕ) → Safe s log → StateRules T s
  safe_rules s log f = state_rules T s f.sized (sound_says T s log f.sound).state

  pub safe_fits : (s : State) (log : List ℕ) → Safe s log → s.logged * 2 ≤ length log
  safe_fits s log f = let l = (sound_says T s log f.sound).logged in omega arith

  pub data Answered (s : State) (log : List ℕ) (o : Outcome) : Type 0 where
    no_channel : o ≡ refused s log (Err NoChannel) → Answered s log o
    empty : o ≡ refused s log (Err ChannelEmpty) → Answered s log o
    made : Made T s log o → Answered s log o

module _ (T : Table) (q : Lawful T) (s : State) (log : List ℕ) (f : Safe T s log) where
  abbrev R : StateRules T s
  R = safe_rules T s log f

  -- a channel of n messages that a delivery names
  by_count : (n : ℕ) (o : Outcome) → ((n ≡ 0 → ⊥) → Made T s log o) → (n ≡ 0 → o ≡ refused s log (Err ChannelEmpty)) → Answered T s log o
  by_count n o some none = ⊎_elim (λ (e : n ≡ 0). empty (none e)) (λ (e : n ≢ 0). made (some e)) (cases_eq n 0)

  at_gate : (t g : ℕ) → t < T.tasks → g < T.gates
      → Answered T s log (along T.moves T.masks T.gates s log T.vectors (ToGate (record { 0 = t }) (record { 0 = g })))
  unfolding delivered_at_gate
  at_gate t g ht hg = by_count (up_of (task_of s t) g).count _ (made_to_gate T q s log R f.inv t g ht hg)
      (λ e. rw (eq-eqb (up_of (task_of s t) g).count 0 e))

  from_gate : (g b : ℕ) → g < T.gates → b < T.tasks
      → Answered T s log (along T.moves T.masks T.gates s log T.vectors (FromGate (record { 0 = g }) (record { 0 = b })))
  unfolding delivered_at_task
  from_gate g b hg hb = by_count (down_of (gate_of s g) b).count _
      (made_from_gate T q s log R (safe_fits T s log f) f.inv g b hg hb)
      (λ e. rw (eq-eqb (down_of (gate_of s g) b).count 0 e))

  to_task : (a b : ℕ) → a < T.tasks → b < T.tasks → a ≢ b
      → Answered T s log (along T.moves T.masks T.gates s log T.vectors (ToTask (record { 0 = a }) (record { 0 = b })))
  unfolding delivered_at_task
  to_task a b ha hb ne = by_count (across_of (task_of s a) b).count _
      (made_to_task T q s log R (safe_fits T s log f) f.inv a b ha hb ne)
      (λ e. rw (eq-eqb (across_of (task_of s a) b).count 0 e))

  by_ends : (x y : Option Endpoint) → EndWithin T.tasks T.gates x → EndWithin T.tasks T.gates y
      → Answered T s log (way_taken T.moves T.masks T.gates s log T.vectors (way_of x y))
  by_ends None y p r = no_channel refl
  by_ends (Some (Task a)) None p r = no_channel refl
  by_ends (Some (Task a)) (Some (Task b)) p r = turn (eqb a.0 b.0) refl
    where
      turn : (c : Bool) → eqb a.0 b.0 ≡ c
          → Answered T s log (way_taken T.moves T.masks T.gates s log T.vectors (cond c None (Some (ToTask a b))))
      turn true e = no_channel refl
      turn false e = to_task a.0 b.0 p r (eqb-false a.0 b.0 e)
  by_ends (Some (Task t)) (Some (Gate g)) p r = at_gate t.0 g.0 p r
  by_ends (Some (Gate g)) None p r = no_channel refl
  by_ends (Some (Gate g)) (Some (Task b)) p r = from_gate g.0 b.0 p r
  by_ends (Some (Gate g)) (Some (Gate h)) p r = no_channel refl

  pub answered : (from to : ℕ) → Answered T s log (delivered T s log from to)
  unfolding delivered between
  answered from to = rw f.sound
      (by_ends (endpoint_of T.tasks T.gates from) (endpoint_of T.tasks T.gates to) (present T from) (present T to))

  abbrev InvariantAt : Outcome → Type 0
  InvariantAt o = Invariant (plan_of T) (line_of o.state o.log)

  inv_after : (o : Outcome) → Answered T s log o → InvariantAt o
  inv_after o (no_channel e) = subst InvariantAt (sym e) f.inv
  inv_after o (empty e) = subst InvariantAt (sym e) f.inv
  inv_after o (made (done a i)) = i
  inv_after o (made (full e)) = subst InvariantAt (sym e) f.inv

  pub safe_after : (from to : ℕ) → Safe T (delivered T s log from to).state (delivered T s log from to).log
  safe_after from to = record {
    sized = outcome_sized T s log from to q.sized.vectors f.sized;
    sound = outcome_sound T s log from to q.sized.vectors f.sized f.sound;
    inv = inv_after (delivered T s log from to) (answered from to);
  }

pub safe_fresh : (T : Table) → Lawful T → (log : List ℕ) → Safe T (fresh_state T) log
safe_fresh T q log = record {
  sized = fresh_sized T q.sound;
  sound = fresh_all_sound T q.sound log;
  inv = fresh_invariant T q log;
}
