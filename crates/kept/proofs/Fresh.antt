-- The fresh state of a sound table is sound.
use Prim.Native.Nat.{ℕ, ◌/◌, ◌^◌, ◌<◌, ◌≤◌}
use mathlib.Core.Bool.{true, ◌&&◌}
use mathlib.Core.List.{List}
use mathlib.Core.Logic.{⊎_elim}
use mathlib.Core.Path.{◌≡◌, refl, sym, subst}
use native.Mathlib.Nat.{div-eq_of_lt}
use native.Mathlib.Omega.{arith}
use lib.Dec.{ltb}
use lib.ListN.{get_or, get_or-replicate, length}
use lib.Pow.{pow_pos}
use borrow.Author.Tests.{lt-ltb, le-ltb, eq-eqb}
use Rattle.laws.proofs.Stores.{store_at}
use Rattle.laws.proofs.Tests.{le_or_lt}
use Rattle.laws.proofs.Turning.{turns_keep}
use Rattle.table.specs.declared.Table.{Table}
use Rattle.soundness.specs.Sound.{sound_table}
use Rattle.soundness.proofs.Rules.{Rules, sound_rules}
use Rattle.channels.specs.Channels.{no_request, empty1, empty3}
use Rattle.channels.specs.declared.Request.{Request}
use Rattle.channels.specs.declared.Channel1.{Channel1}
use Rattle.channels.specs.declared.Channel3.{Channel3}
use Rattle.state.specs.States.{empty_task, empty_gate, empty_state, no_task, no_gate, task_of, at_state}
use Rattle.state.specs.declared.Task.{Task}
use Rattle.state.specs.declared.Gate.{Gate}
use Rattle.state.specs.declared.State.{State}
use Rattle.sound_state.specs.Parts.{room, state_sound, waiting_sound}
use Rattle.tasks.specs.Tasks.{begun, announced}
use Rattle.delivery.specs.Delivery.{sound_for}
use Rattle.fresh.specs.Fresh.{started_at, fresh_state}
use Rattle.kept.proofs.Channels.{empty_one, empty_up}
use Rattle.kept.proofs.Rules.{Kept, TaskRules, GateRules, up_rule, across_fit, across_rule, down_fit, down_rule, rules_of}
use Rattle.kept.proofs.Sends.{announced_kept, at_state_kept}
use Rattle.kept.proofs.States.{SizedState, StateRules, sound_in, state_sound_lem, state_sized, with_task_lem, sound_is}

-- the state on the way: sound, with nothing waiting and no log entry
record Started (T : Table) (s : State) : Type 0 where
  rules : StateRules T s
  none : (t : ℕ) → t < 16 → (task_of s t).count ≡ 0
  logged : s.logged ≡ 0

module _ (T : Table) (R : Rules T) where
  state_zero : (t : ℕ) → state_sound (ltb t T.tasks) (get_or T.states t 0) 0 ≡ true
  state_zero t = ⊎_elim
      (λ (l : T.tasks ≤ t). rw (le-ltb t T.tasks l))
      (λ (l : t < T.tasks). rw (lt-ltb t T.tasks l, lt-ltb 0 (get_or T.states t 0) (omega (arith, R.start t l))))
      (le_or_lt T.tasks t)

  empty_task_lem : (t : ℕ) → Kept T t 0 empty_task
  empty_task_lem t = record {
    sized = record { waiting = refl; up = refl; across = refl };
    state = state_zero t;
    held = refl;
    counted = refl;
    few = omega arith;
    waiting = λ i l. subst (λ (r : Request). waiting_sound T.vectors T.masks t (ltb i 0) r ≡ true)
        (sym (get_or-replicate 16 i no_request no_request l)) (rw (le-ltb i 0 (omega arith)));
    up = λ g l. subst (λ (c : Channel3). up_rule T t g c ≡ true) (sym (get_or-replicate 16 g empty3 empty3 l))
        (empty_up (ltb t T.tasks && ltb g T.gates) g);
    across = λ b l. subst (λ (c : Channel1). across_rule T t b c ≡ true) (sym (get_or-replicate 16 b empty1 empty1 l))
        (empty_one (ltb t T.tasks && ltb b T.tasks) (across_fit T t b empty1.first));
  }

  empty_gate_lem : (g : ℕ) → GateRules T g empty_gate
  empty_gate_lem g = record {
    sized = record { down = refl };
    offers = eq-eqb (0 / 2 ^ room (ltb g T.gates) T.tasks) 0
        (div-eq_of_lt (pow_pos (room (ltb g T.gates) T.tasks)));
    deal = refl;
    down = λ b l. subst (λ (c : Channel1). down_rule T g b c ≡ true) (sym (get_or-replicate 16 b empty1 empty1 l))
        (empty_one (ltb g T.gates && ltb b T.tasks) (down_fit T g b empty1.first));
  }

  empty_started : Started T empty_state
  empty_started = record {
    rules = record {
      tasks = refl;
      gates = refl;
      task = λ t l. subst (λ (p : Task). TaskRules T t p) (sym (get_or-replicate 16 t empty_task no_task l))
          (rules_of T t 0 empty_task (empty_task_lem t) (λ e. refl));
      gate = λ g l. subst (λ (k : Gate). GateRules T g k) (sym (get_or-replicate 16 g empty_gate no_gate l)) (empty_gate_lem g);
    };
    none = λ t l. subst (λ (p : Task). p.count ≡ 0) (sym (get_or-replicate 16 t empty_task no_task l)) refl;
    logged = refl;
  }

  one_more : (t : ℕ) (s : State) → t < T.tasks → Started T s → Started T (started_at T t s)
  one_more t s l h =
      let p : Task = task_of s t in
      let t16 : t < 16 = omega (arith, R.tasks) in
      let old : Kept T t 0 p = subst (λ (n : ℕ). Kept T t n p) (h.none t t16) (h.rules.task t t16).kept in
      let q : Task = (announced T.moves T.gates t (begun (at_state p (get_or T.starts t 0)))).task in
      let new : Kept T t 0 q = announced_kept T R t l 0 (begun (at_state p (get_or T.starts t 0)))
      (at_state_kept T R t l 0 p (get_or T.starts t 0) (R.start t l) old) in
      record {
        rules = with_task_lem T s t q (rules_of T t 0 q new (λ e. refl)) h.rules;
        none = λ x m. store_at s.tasks t x q no_task (λ (r : Task). r.count ≡ 0) (λ e. new.counted) (h.none x m);
        logged = h.logged;
      }

  fresh_started : Started T (fresh_state T)
  unfolding fresh_state
  fresh_started = turns_keep (Started T) (started_at T) T.tasks empty_state one_more empty_started

module _ (T : Table) (h : sound_table T ≡ true) where
  started : Started T (fresh_state T)
  started = fresh_started T (sound_rules T h)

  pub fresh_sound : sound_in T (fresh_state T) ≡ true
  fresh_sound = state_sound_lem T (fresh_state T) started.rules

  pub fresh_logged : (fresh_state T).logged ≡ 0
  fresh_logged = started.logged

  pub fresh_sized : SizedState (fresh_state T)
  fresh_sized = state_sized T (fresh_state T) started.rules

  -- with any log
  pub fresh_all_sound : (log : List ℕ) → sound_for T (fresh_state T) (length log) ≡ true
  fresh_all_sound log = sound_is T (fresh_state T) log record {
    table = h;
    state = fresh_sound;
    logged = omega (arith, started.logged);
  }
