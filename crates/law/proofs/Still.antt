-- Where no message is undelivered, no task is Held, no request waits and no vector has all its tasks ready.
use Prim.Native.Nat.{ℕ, ◌<◌, ◌≤◌}
use mathlib.Core.Bool.{Bool, ◌||◌, false, not, true}
use mathlib.Core.List.{List}
use mathlib.Core.Logic.{◌≢◌, ⊎_elim}
use mathlib.Core.Path.{◌≡◌, refl, sym, ap}
use native.Mathlib.Omega.{arith}
use lib.Dec.{ltb}
use lib.ListN.{get_or-eq_default, get_or}
use borrow.Author.Tests.{eqb-true, ltb-true}
use Rattle.laws.specs.Below.{all_below}
use Rattle.laws.proofs.Numbers.{below_at}
use Rattle.std.proofs.lemmas.Bool.{cases_eq, and_parts}
use Rattle.laws.proofs.Tests.{le_or_lt}
use Rattle.table.specs.Tables.{ready_of}
use Rattle.table.specs.declared.Table.{Table}
use Rattle.state.specs.States.{across_of, down_of, gate_of, no_task, task_of, up_of}
use Rattle.state.specs.declared.Mode.TheVariants.{Free}
use Rattle.state.specs.declared.State.{State}
use Rattle.state.specs.declared.Task.{Task}
use Rattle.tasks.specs.Tasks.{is_free}
use Rattle.quiet.specs.Quiet.{quiet}
use Rattle.quiet.specs.Parts.{gates_quiet, one_quiet, ones_quiet, tasks_quiet, three_quiet, threes_quiet}
use Rattle.kept.proofs.States.{StateRules}
use Rattle.machine.specs.Machine.{enabled, takes_part}
use Rattle.protocol.proofs.Cases.{clash}
use Rattle.protocol.proofs.Invariant.{Invariant}
use Rattle.protocol.proofs.Quiet.{Quiet, none_enabled, none_held}
use Rattle.link.proofs.Channels.{empty_messages1, empty_messages3}
use Rattle.link.proofs.Tables.{Lawful, plan_of}
use Rattle.link.proofs.View.{line_of}
use Rattle.law.proofs.There.{across_there, down_there, up_there}

-- a count that is 0 wherever there is a channel is 0
zero_by : (n : ℕ) → (n ≢ 0 → n ≡ 0) → n ≡ 0
zero_by n h = ⊎_elim (λ (e : n ≡ 0). e) (λ (e : n ≢ 0). h e) (cases_eq n 0)

module _ (T : Table) (q : Lawful T) (s : State) (R : StateRules T s) (log : List ℕ) (h : quiet s ≡ true) where
  quiet_tasks : (t : ℕ) → t < T.tasks → tasks_quiet s t ≡ true
  unfolding quiet
  quiet_tasks t l =
      below_at 16 (tasks_quiet s) ((and_parts (all_below 16 (tasks_quiet s)) (all_below 16 (gates_quiet s)) h).0) t
      (omega (arith, q.rules.tasks))

  quiet_gates : (g : ℕ) → g < T.gates → gates_quiet s g ≡ true
  unfolding quiet
  quiet_gates g l =
      below_at 16 (gates_quiet s) ((and_parts (all_below 16 (tasks_quiet s)) (all_below 16 (gates_quiet s)) h).1) g
      (omega (arith, q.rules.gates))

  no_up : (t g : ℕ) → (up_of (task_of s t) g).count ≡ 0
  no_up t g = zero_by (up_of (task_of s t) g).count (λ n.
      let p = up_there T s R t g n in
      let k = (and_parts (threes_quiet (task_of s t).up) (ones_quiet (task_of s t).across) (quiet_tasks t p.0)).0 in
      eqb-true _ 0 (below_at 16 (three_quiet (task_of s t).up) k g (omega (arith, p.1, q.rules.gates))))

  no_down : (g b : ℕ) → (down_of (gate_of s g) b).count ≡ 0
  no_down g b = zero_by (down_of (gate_of s g) b).count (λ n.
      let p = down_there T s R g b n in
      eqb-true _ 0 (below_at 16 (one_quiet (gate_of s g).down) (quiet_gates g p.0) b (omega (arith, p.1, q.rules.tasks))))

  no_across : (a b : ℕ) → (across_of (task_of s a) b).count ≡ 0
  no_across a b = zero_by (across_of (task_of s a) b).count (λ n.
      let p = across_there T s R a b n in
      let k = (and_parts (threes_quiet (task_of s a).up) (ones_quiet (task_of s a).across) (quiet_tasks a p.0)).1 in
      eqb-true _ 0 (below_at 16 (one_quiet (task_of s a).across) k b (omega (arith, p.1.0, q.rules.tasks))))

  nothing_travels : Quiet (line_of s log)
  nothing_travels = record {
    no_up = λ t g. empty_messages3 (up_of (task_of s t) g) (no_up t g);
    no_down = λ g b. empty_messages1 (down_of (gate_of s g) b) (no_down g b);
    no_across = λ a b. empty_messages1 (across_of (task_of s a) b) (no_across a b);
  }

  module _ (i : Invariant (plan_of T) (line_of s log)) where
    pub all_free : (t : ℕ) → (task_of s t).mode ≡ Free
    all_free t = none_held (plan_of T) q.right (line_of s log) i nothing_travels t

    pub none_waits_lem : (t : ℕ) → (task_of s t).count ≡ 0
    none_waits_lem t = ⊎_elim
        (λ (l : 16 ≤ t). ap (λ (p : Task). p.count) (get_or-eq_default s.tasks no_task {n = t} (omega (arith, R.tasks))))
        (λ (l : t < 16). (R.task t l).free (ap is_free (all_free t)))
        (le_or_lt 16 t)

    pub none_ready_lem : (g v : ℕ) → enabled T (λ t. (task_of s t).state) g v ≡ false
    unfolding enabled
    none_ready_lem g v = turn (enabled T (λ t. (task_of s t).state) g v) refl
      where
        met : (t : ℕ) (c : Bool) → c ≡ true → (not c || ready_of T.moves t (task_of s t).state g) ≡ true
            → ready_of T.moves t (task_of s t).state g ≡ true
        met t true e k = k
        met t false e k = clash (sym e)

        turn : (c : Bool) → enabled T (λ t. (task_of s t).state) g v ≡ c → c ≡ false
        turn false e = refl
        turn true e =
            let there : Bool = ltb v (get_or T.vectors g 0) in
            let all : Bool = all_below 16 (λ (t : ℕ). not (takes_part T g v t) || ready_of T.moves t (task_of s t).state g) in
            let m = q.member g v (ltb-true v (get_or T.vectors g 0) ((and_parts there all e).0)) in
            absurd (none_enabled (plan_of T) q.right (line_of s log) i nothing_travels g v m.0 m.1 (λ t n.
            met t (takes_part T g v t) n (below_at 16 _ ((and_parts there all e).1) t
            (let p = (q.present g v t n).task in omega (arith, q.rules.tasks)))))
