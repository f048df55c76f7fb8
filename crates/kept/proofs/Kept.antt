-- A delivery that is done keeps table, state and log sound.
use Prim.Native.Nat.{ℕ, ◌/◌, ◌<◌, ◌≤◌}
use mathlib.Core.Bool.{true, false, ◌&&◌, true≢false}
use mathlib.Core.List.{List}
use mathlib.Core.Logic.{⊎_elim}
use mathlib.Core.Path.{◌≡◌, sym, ◌∙◌, subst}
use native.Mathlib.Omega.{arith}
use lib.Dec.{ltb}
use lib.ListN.{get_or, length}
use Rattle.answers.specs.Answers.{is_done}
use Rattle.std.proofs.lemmas.Bool.{cases_Bool}
use Rattle.table.specs.declared.Table.{Table}
use Rattle.soundness.proofs.Rules.{Rules, sound_rules}
use Rattle.channels.specs.Channels.{empty1, popped3}
use Rattle.channels.specs.declared.Message.{Message}
use Rattle.channels.specs.declared.Channel1.{Channel1}
use Rattle.channels.specs.declared.Channel3.{Channel3}
use Rattle.state.specs.States.{task_of, gate_of, up_of, across_of, down_of, with_down, with_task, with_gate, with_logged}
use Rattle.state.specs.Parts.{with_up, with_across}
use Rattle.state.specs.declared.Task.{Task}
use Rattle.state.specs.declared.State.{State}
use Rattle.tasks.specs.Tasks.{at_task}
use Rattle.gates.specs.Gates.{at_gate}
use Rattle.delivery.specs.Delivery.{Outcome, sound_for, delivered}
use Rattle.kept.proofs.Channels.{pop_up, one_fits, empty_one}
use Rattle.kept.proofs.Rules.{TaskRules, across_fit, down_fit, comes, across_comes, down_comes}
use Rattle.kept.proofs.Sends.{up_kept, across_kept, with_gate_lem}
use Rattle.kept.proofs.Handling.{at_task_kept}
use Rattle.kept.proofs.Dealing.{down_kept, at_gate_kept}
use Rattle.kept.proofs.States as states
use Rattle.kept.proofs.States.{SizedState, StateRules, state_rules, state_sound_lem, state_sized, sound_says, sound_is}
use Rattle.kept.proofs.Ends.{Ends, refuses, to_gate, to_task, from_gate, up_popped, across_popped, down_popped, ends, refused_changes_nothing}
use Rattle.kept.proofs.Log.{log_behind}

-- A sound state s: the sender without its oldest message.
module _ (T : Table) (R : Rules T) (s : State) (r : StateRules T s) where
  up_popped_lem : (t g : ℕ) → t < T.tasks → g < T.gates → StateRules T (up_popped s t g)
  up_popped_lem t g x y =
      let p : Task = task_of s t in
      let c : Channel3 = up_of p g in
      let h : TaskRules T t p = r.task t (omega (arith, R.tasks)) in
      let both = with_gate_lem T R t x p.count g y in
      states.with_task_lem T s t (with_up p g (popped3 c)) (record {
        kept = up_kept T t p.count p h.kept g (popped3 c)
            (pop_up _ both g c (h.kept.up g (omega (arith, R.gates))));
        free = h.free;
      }) r

  across_popped_lem : (a b : ℕ) → a < T.tasks → StateRules T (across_popped s a b)
  across_popped_lem a b x =
      let p : Task = task_of s a in
      let h : TaskRules T a p = r.task a (omega (arith, R.tasks)) in
      states.with_task_lem T s a (with_across p b empty1) (record {
        kept = across_kept T a p.count p h.kept b empty1
            (empty_one (ltb a T.tasks && ltb b T.tasks) (across_fit T a b empty1.first));
        free = h.free;
      }) r

  down_popped_lem : (g b : ℕ) → g < T.gates → StateRules T (down_popped s g b)
  down_popped_lem g b x =
      let fits = empty_one (ltb g T.gates && ltb b T.tasks) (down_fit T g b empty1.first) in
      states.with_gate_lem T s g (with_down (gate_of s g) b empty1)
      (down_kept T g (gate_of s g) b empty1 fits (r.gate g (omega (arith, R.gates)))) r

  -- the oldest message of a channel may come to its receiver
  pub across_front : (a b : ℕ) → a < T.tasks → b < T.tasks → ((across_of (task_of s a) b).count ≡ 0 → ⊥)
      → comes T b (across_of (task_of s a) b).first ≡ true
  across_front a b x y n =
      let c : Channel1 = across_of (task_of s a) b in
      let k = (r.task a (omega (arith, R.tasks))).kept.across b (omega (arith, R.tasks)) in
      across_comes T a b c.first (one_fits (across_fit T a b) (ltb a T.tasks && ltb b T.tasks) c k n)

  pub down_front : (g b : ℕ) → g < T.gates → b < T.tasks → ((down_of (gate_of s g) b).count ≡ 0 → ⊥)
      → comes T b (down_of (gate_of s g) b).first ≡ true
  down_front g b x y n =
      let c : Channel1 = down_of (gate_of s g) b in
      let k = (r.gate g (omega (arith, R.gates))).down b (omega (arith, R.tasks)) in
      down_comes T g b c.first (one_fits (down_fit T g b) (ltb g T.gates && ltb b T.tasks) c k n)

  -- the receiver after its work
  gate_worked : (popped : State) (t g : ℕ) (m : Message) → t < T.tasks → g < T.gates → StateRules T popped
      → StateRules T (with_gate popped g (at_gate T.masks (get_or T.vectors g 0) g t (gate_of s g) m).gate)
  gate_worked popped t g m x y =
      states.with_gate_lem T popped g (at_gate T.masks (get_or T.vectors g 0) g t (gate_of s g) m).gate
      (at_gate_kept T R g y t (gate_of s g) m x (r.gate g (omega (arith, R.gates))))

  task_worked : length T.vectors ≡ 16 → (popped : State) (b n : ℕ) (m : Message) → b < T.tasks → comes T b m ≡ true
      → StateRules T popped
      → StateRules T (with_logged (with_task popped b (at_task T.moves T.gates b T.masks (task_of s b) m).task) n)
  task_worked room popped b n m y f q =
      let k = states.with_task_lem T popped b (at_task T.moves T.gates b T.masks (task_of s b) m).task
      (at_task_kept T R room b y (task_of s b) (r.task b (omega (arith, R.tasks))) m f) q in
      record { tasks = k.tasks; gates = k.gates; task = k.task; gate = k.gate }

-- the state that a delivery ends with
module _ (T : Table) (room : length T.vectors ≡ 16) (s : State) (log : List ℕ) (z : SizedState s) where
  abbrev before : sound_for T s (length log) ≡ true → StateRules T s
  before h = state_rules T s z (sound_says T s log h).state

  after : (o : Outcome) → Ends T s log o → is_done o.answer ≡ true → StateRules T o.state
  after _ (refuses a n) d = absurd (true≢false (sym d ∙ n))
  after _ (to_gate t g h x y) d =
      let R = sound_rules T (sound_says T s log h).table in
      let r = before h in
      gate_worked T R s r (up_popped s t g) t g (up_of (task_of s t) g).first x y (up_popped_lem T R s r t g x y)
  after _ (to_task a b h x y n l) d =
      let R = sound_rules T (sound_says T s log h).table in
      let r = before h in
      task_worked T R s r room (across_popped s a b) b _ (across_of (task_of s a) b).first y (across_front T R s r a b x y n)
      (across_popped_lem T R s r a b x)
  after _ (from_gate g b h x y n l) d =
      let R = sound_rules T (sound_says T s log h).table in
      let r = before h in
      task_worked T R s r room (down_popped s g b) b _ (down_of (gate_of s g) b).first y (down_front T R s r g b x y n)
      (down_popped_lem T R s r g b x)

module _ (T : Table) (s : State) (log : List ℕ) (from to : ℕ) where
  abbrev outcome : Outcome
  outcome = delivered T s log from to

  pub delivery_keeps_sound : length T.vectors ≡ 16 → SizedState s → sound_for T s (length log) ≡ true
      → is_done (delivered T s log from to).answer ≡ true
      → sound_for T (delivered T s log from to).state (length (delivered T s log from to).log) ≡ true
  delivery_keeps_sound room z h d =
      let b = log_behind T s log from to d in
      sound_is T outcome.state outcome.log record {
        table = (sound_says T s log h).table;
        state = state_sound_lem T outcome.state (after T room s log z outcome (ends T s log from to) d);
        logged = subst (λ (n : ℕ). outcome.state.logged ≤ n / 2) (sym b.size) b.fits;
      }

  -- whatever the answer
  pub outcome_sound : length T.vectors ≡ 16 → SizedState s → sound_for T s (length log) ≡ true
      → sound_for T (delivered T s log from to).state (length (delivered T s log from to).log) ≡ true
  outcome_sound room z h = ⊎_elim
      (λ (d : is_done outcome.answer ≡ true). delivery_keeps_sound room z h d)
      (λ (d : is_done outcome.answer ≡ false).
      let e = refused_changes_nothing T s log from to d in
      subst (λ (l : List ℕ). sound_for T outcome.state (length l) ≡ true) (sym e.1)
      (subst (λ (x : State). sound_for T x (length log) ≡ true) (sym e.0) h))
      (cases_Bool (is_done outcome.answer))

  pub outcome_sized : length T.vectors ≡ 16 → SizedState s → SizedState (delivered T s log from to).state
  outcome_sized room z = ⊎_elim
      (λ (d : is_done outcome.answer ≡ true). state_sized T outcome.state
      (after T room s log z outcome (ends T s log from to) d))
      (λ (d : is_done outcome.answer ≡ false). subst SizedState
      (sym (refused_changes_nothing T s log from to d).0) z)
      (cases_Bool (is_done outcome.answer))
