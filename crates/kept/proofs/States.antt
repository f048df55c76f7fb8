-- The rules of a sound state, party by party; and back.
use Prim.Native.Nat.{ℕ, ◌<◌, ◌≤◌, ◌/◌}
use mathlib.Core.Bool.{Bool, true, ◌&&◌}
use mathlib.Core.List.{List}
use mathlib.Core.Path.{◌≡◌, sym, ◌∙◌, subst}
use lib.Dec.{leb}
use lib.ListN.{get_or, length, length-set}
use borrow.Author.Tests.{leb-true, le-leb}
use Rattle.laws.specs.Below.{all_below}
use Rattle.laws.proofs.Numbers.{below_at, below_of}
use Rattle.laws.proofs.Stores.{store_at}
use Rattle.std.proofs.lemmas.Bool.{and_from, and_parts}
use Rattle.table.specs.declared.Table.{Table}
use Rattle.soundness.specs.Sound.{sound_table}
use Rattle.state.specs.States.{task_of, gate_of, with_task, with_gate, no_task, no_gate}
use Rattle.state.specs.declared.Task.{Task}
use Rattle.state.specs.declared.Gate.{Gate}
use Rattle.state.specs.declared.State.{State}
use Rattle.sound_state.specs.SoundState.{task_sound, gate_sound, sound_state}
use Rattle.delivery.specs.Delivery.{sound_for}
use Rattle.kept.proofs.Rules.{SizedTask, SizedGate, TaskRules, GateRules, task_rules, task_sound_lem, gate_rules, gate_sound_lem}

-- the state's lists have the lengths of its arrays
pub record SizedState (s : State) : Type 0 where
  pub tasks : length s.tasks ≡ 16
  pub gates : length s.gates ≡ 16
  pub task : (t : ℕ) → t < 16 → SizedTask (task_of s t)
  pub gate : (g : ℕ) → g < 16 → SizedGate (gate_of s g)

pub record StateRules (T : Table) (s : State) : Type 0 where
  pub tasks : length s.tasks ≡ 16
  pub gates : length s.gates ≡ 16
  pub task : (t : ℕ) → t < 16 → TaskRules T t (task_of s t)
  pub gate : (g : ℕ) → g < 16 → GateRules T g (gate_of s g)

abbrev pub sound_in : Table → State → Bool
sound_in T s = sound_state T.vectors T.masks T.tasks T.gates T.states s

module _ (T : Table) (s : State) where
  pub state_rules : SizedState s → sound_in T s ≡ true → StateRules T s
  unfolding sound_state
  state_rules z h =
      let A : ℕ → Bool =
      λ t. task_sound T.vectors T.masks T.tasks T.gates t (get_or T.states t 0) (task_of s t) in
      let B : ℕ → Bool = λ g. gate_sound T.vectors T.masks T.tasks T.gates g (gate_of s g) in
      record {
        tasks = z.tasks;
        gates = z.gates;
        task = λ t l. task_rules T t (task_of s t) (z.task t l)
            (below_at 16 A ((and_parts (all_below 16 A) (all_below 16 B) h).0) t l);
        gate = λ g l. gate_rules T g (gate_of s g) (z.gate g l)
            (below_at 16 B ((and_parts (all_below 16 A) (all_below 16 B) h).1) g l);
      }

  pub state_sound_lem : StateRules T s → sound_in T s ≡ true
  unfolding sound_state
  state_sound_lem r = and_from _ _
      (below_of 16 _ (λ t l. task_sound_lem T t (task_of s t) (r.task t l)))
      (below_of 16 _ (λ g l. gate_sound_lem T g (gate_of s g) (r.gate g l)))

  pub state_sized : StateRules T s → SizedState s
  state_sized r = record {
    tasks = r.tasks;
    gates = r.gates;
    task = λ t l. (r.task t l).kept.sized;
    gate = λ g l. (r.gate g l).sized;
  }

  -- with one party changed, to one that follows the rules
  pub with_task_lem : (t : ℕ) (p : Task) → TaskRules T t p → StateRules T s → StateRules T (with_task s t p)
  with_task_lem t p h r = record {
    tasks = length-set s.tasks t p ∙ r.tasks;
    gates = r.gates;
    task = λ x l. store_at s.tasks t x p no_task (λ (q : Task). TaskRules T x q)
        (λ (e : x ≡ t). subst (λ (y : ℕ). TaskRules T y p) (sym e) h) (r.task x l);
    gate = r.gate;
  }

  pub with_gate_lem : (g : ℕ) (k : Gate) → GateRules T g k → StateRules T s → StateRules T (with_gate s g k)
  with_gate_lem g k h r = record {
    tasks = r.tasks;
    gates = length-set s.gates g k ∙ r.gates;
    task = r.task;
    gate = λ x l. store_at s.gates g x k no_gate (λ (q : Gate). GateRules T x q)
        (λ (e : x ≡ g). subst (λ (y : ℕ). GateRules T y k) (sym e) h) (r.gate x l);
  }

-- the three parts of 11
pub record Sound (T : Table) (s : State) (log : List ℕ) : Type 0 where
  pub table : sound_table T ≡ true
  pub state : sound_in T s ≡ true
  pub logged : s.logged ≤ length log / 2

pub sound_says : (T : Table) (s : State) (log : List ℕ) → sound_for T s (length log) ≡ true → Sound T s log
unfolding sound_for
sound_says T s log h =
    let k : (sound_in T s && leb s.logged (length log / 2)) ≡ true = (and_parts (sound_table T) _ h).1 in
    record {
      table = (and_parts (sound_table T) _ h).0;
      state = (and_parts (sound_in T s) _ k).0;
      logged = leb-true s.logged (length log / 2) ((and_parts (sound_in T s) _ k).1);
    }

pub sound_is : (T : Table) (s : State) (log : List ℕ) → Sound T s log → sound_for T s (length log) ≡ true
unfolding sound_for
sound_is T s log h = and_from _ _ h.table (and_from _ _ h.state (le-leb s.logged (length log / 2) h.logged))
