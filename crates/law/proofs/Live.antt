-- Every message that is there can be delivered, or finds the log full; where one is undelivered there is such a delivery.
use Rattle.std.specs.Prelude.{Option, Some, Ok, Err}
use Prim.Native.Nat.{ℕ, ◌+◌, ◌-◌, ◌<◌, ◌≤◌}
use mathlib.Core.Bool.{false, true}
use mathlib.Core.List.{List}
use mathlib.Core.Logic.{◌≢◌, ◌⊎◌, inl, inr, ⊎_elim}
use mathlib.Core.Path.{◌≡◌, ap, subst, sym}
use native.Mathlib.Omega.{arith}
use lib.Dec.{ltb}
use borrow.Author.Tests.{eqb-false, le-ltb, lt-ltb, ltb-true, ne_eqb}
use Rattle.laws.specs.Below.{all_below}
use Rattle.laws.proofs.Numbers.{below_false}
use Rattle.std.proofs.lemmas.Bool.{and_cases, and_parts}
use Rattle.answers.specs.Answers.{Answer}
use Rattle.answers.specs.declared.Refusal.TheVariants.{LogFull}
use Rattle.numbers.specs.Endpoints.{endpoint_of}
use Rattle.numbers.specs.declared.Endpoint.{Endpoint}
use Rattle.numbers.specs.declared.Endpoint.TheVariants.{Gate, Task}
use Rattle.table.specs.declared.Table.{Table}
use Rattle.channels.specs.declared.Message.{Message}
use Rattle.channels.specs.declared.Message.TheVariants.{Abort, Commit, Lock, Ready}
use Rattle.state.specs.States.{across_of, down_of, gate_of, task_of, up_of}
use Rattle.state.specs.declared.State.{State}
use Rattle.delivery.specs.Delivery.{Outcome, between, delivered, way_of, way_taken}
use Rattle.quiet.specs.Quiet.{quiet}
use Rattle.quiet.specs.Parts.{gates_quiet, one_quiet, ones_quiet, tasks_quiet, three_quiet, threes_quiet}
use Rattle.kept.proofs.Rules.{across_fit, names_of}
use Rattle.protocol.proofs.Cases.{clash}
use Rattle.link.proofs.Deliveries.{Safe, safe_fits, safe_rules}
use Rattle.link.proofs.Made.{Made, done, full}
use Rattle.link.proofs.Tables.{Lawful}
use Rattle.link.proofs.ToGate.{made_to_gate}
use Rattle.link.proofs.ToTask.{made_from_gate, made_to_task}
use Rattle.law.proofs.There.{across_there, down_there, up_there}

-- a message is delivered, or refused for want of room in the log alone
abbrev GoesOn : Answer → Type 0
GoesOn a = (a ≡ Ok tt) ⊎ (a ≡ Err LogFull)

-- the endpoints of tasks and gates that are present
task_endpoint : (T : Table) (t : ℕ) → t < T.tasks → T.tasks ≤ 16 → endpoint_of T.tasks T.gates t ≡ Some (Task (record { 0 = t }))
task_endpoint T t h l = rw (lt-ltb t 16 (omega arith), lt-ltb t T.tasks h)

gate_endpoint : (T : Table) (g : ℕ) → g < T.gates → T.gates ≤ 16 → endpoint_of T.tasks T.gates (16 + g) ≡ Some (Gate (record { 0 = g }))
gate_endpoint T g h l =
    let e : 16 + g - 16 ≡ g = omega arith in
    rw (le-ltb (16 + g) 16 (omega arith), lt-ltb (16 + g) 32 (omega arith), e, lt-ltb g T.gates h)

-- no task sends itself anything
pub not_itself : (T : Table) (a : ℕ) (m : Message) → across_fit T a a m ≡ true → ⊥
not_itself T a Ready f = clash (sym f)
not_itself T a (Lock r) f = let l = ltb-true a a ((and_parts (ltb a a) (names_of T a r) f).0) in omega arith
not_itself T a (Commit h) f = let l = ltb-true a a ((and_parts (ltb a a) (ltb h.0 T.gates) f).0) in omega arith
not_itself T a (Abort h) f = let l = ltb-true a a ((and_parts (ltb a a) (ltb h.0 T.gates) f).0) in omega arith

module _ (T : Table) (q : Lawful T) (s : State) (log : List ℕ) (f : Safe T s log) where
  goes_on : (o : Outcome) → Made T s log o → GoesOn o.answer
  goes_on o (done e i) = inl e
  goes_on o (full e) = inr (ap (λ (x : Outcome). x.answer) e)

  -- a delivery between two endpoints that are there
  by_endpoints : (from to : ℕ) (x y : Option Endpoint) → endpoint_of T.tasks T.gates from ≡ x → endpoint_of T.tasks T.gates to ≡ y
      → Made T s log (way_taken T.moves T.masks T.gates s log T.vectors (way_of x y))
      → GoesOn (delivered T s log from to).answer
  unfolding delivered between
  by_endpoints from to x y ex ey m = rw (f.sound, ex, ey) (goes_on (way_taken T.moves T.masks T.gates s log T.vectors (way_of x y)) m)

  pub up_goes_on : (t g : ℕ) → (up_of (task_of s t) g).count ≢ 0 → GoesOn (delivered T s log t (16 + g)).answer
  up_goes_on t g n =
      let R = safe_rules T s log f in
      let p = up_there T s R t g n in
      by_endpoints t (16 + g) (Some (Task (record { 0 = t }))) (Some (Gate (record { 0 = g })))
      (task_endpoint T t p.0 q.rules.tasks) (gate_endpoint T g p.1 q.rules.gates)
      (made_to_gate T q s log R f.inv t g p.0 p.1 n)

  pub down_goes_on : (g b : ℕ) → (down_of (gate_of s g) b).count ≢ 0 → GoesOn (delivered T s log (16 + g) b).answer
  down_goes_on g b n =
      let R = safe_rules T s log f in
      let p = down_there T s R g b n in
      by_endpoints (16 + g) b (Some (Gate (record { 0 = g }))) (Some (Task (record { 0 = b })))
      (gate_endpoint T g p.0 q.rules.gates) (task_endpoint T b p.1 q.rules.tasks)
      (made_from_gate T q s log R (safe_fits T s log f) f.inv g b p.0 p.1 n)

  pub across_goes_on : (a b : ℕ) → (across_of (task_of s a) b).count ≢ 0 → GoesOn (delivered T s log a b).answer
  across_goes_on a b n =
      let R = safe_rules T s log f in
      let p = across_there T s R a b n in
      let ne : a ≢ b = λ e. not_itself T b (across_of (task_of s a) b).first
      (subst (λ (x : ℕ). across_fit T x b (across_of (task_of s a) b).first ≡ true) e p.1.1) in
      by_endpoints a b (Some (Task (record { 0 = a }))) (Some (Task (record { 0 = b })))
      (task_endpoint T a p.0 q.rules.tasks) (task_endpoint T b p.1.0 q.rules.tasks)
      (rw (ne_eqb a b ne) (made_to_task T q s log R (safe_fits T s log f) f.inv a b p.0 p.1.0 ne n))

  -- the channel that holds the message
  pub live_here : quiet s ≡ false → (from to : ℕ) × GoesOn (delivered T s log from to).answer
  unfolding quiet
  live_here h = ⊎_elim task gate (and_cases (all_below 16 (tasks_quiet s)) (all_below 16 (gates_quiet s)) h)
    where
      up : (t : ℕ) → threes_quiet (task_of s t).up ≡ false → (from to : ℕ) × GoesOn (delivered T s log from to).answer
      up t e =
          let k = below_false 16 (three_quiet (task_of s t).up) e in
          (t, 16 + k.0, up_goes_on t k.0 (eqb-false _ 0 k.1.1))

      across : (t : ℕ) → ones_quiet (task_of s t).across ≡ false → (from to : ℕ) × GoesOn (delivered T s log from to).answer
      across t e =
          let k = below_false 16 (one_quiet (task_of s t).across) e in
          (t, k.0, across_goes_on t k.0 (eqb-false _ 0 k.1.1))

      task : all_below 16 (tasks_quiet s) ≡ false → (from to : ℕ) × GoesOn (delivered T s log from to).answer
      task e =
          let t = below_false 16 (tasks_quiet s) e in
          ⊎_elim (up t.0) (across t.0) (and_cases (threes_quiet (task_of s t.0).up) (ones_quiet (task_of s t.0).across) t.1.1)

      gate : all_below 16 (gates_quiet s) ≡ false → (from to : ℕ) × GoesOn (delivered T s log from to).answer
      gate e =
          let g = below_false 16 (gates_quiet s) e in
          let k = below_false 16 (one_quiet (gate_of s g.0).down) g.1.1 in
          (16 + g.0, k.0, down_goes_on g.0 k.0 (eqb-false _ 0 k.1.1))
