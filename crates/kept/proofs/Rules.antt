-- The rules of a sound task and of a sound gate, one by one; and back.
use Rattle.std.specs.Prelude.{is_some}
use Prim.Native.Nat.{ℕ, ◌<◌, ◌≤◌}
use mathlib.Core.Bool.{Bool, true, false, ◌&&◌, true≢false}
use mathlib.Core.Path.{◌≡◌, refl, sym, subst}
use lib.Dec.{eqb, ltb, leb}
use lib.ListN.{get_or, length}
use borrow.Author.Tests.{leb-true, le-leb, eqb-true, eq-eqb}
use Rattle.laws.proofs.Numbers.{below_at, below_of}
use Rattle.std.proofs.lemmas.Bool.{and_from, and_parts}
use Rattle.sets.specs.Sets.{all_below_of, next_above_of}
use Rattle.table.specs.Tables.{mask_of}
use Rattle.table.specs.declared.Table.{Table}
use Rattle.channels.specs.Channels.{no_request}
use Rattle.channels.specs.declared.Request.{Request}
use Rattle.channels.specs.declared.Message.{Message}
use Rattle.channels.specs.declared.Message.TheVariants.{Ready, Lock, Commit, Abort}
use Rattle.channels.specs.declared.Channel1.{Channel1}
use Rattle.channels.specs.declared.Channel3.{Channel3}
use Rattle.state.specs.States.{up_of, across_of, down_of}
use Rattle.state.specs.declared.Mode.{Mode}
use Rattle.state.specs.declared.Mode.TheVariants.{Free, Held}
use Rattle.state.specs.declared.Task.{Task}
use Rattle.state.specs.declared.Gate.{Gate}
use Rattle.tasks.specs.Tasks.{is_free}
use Rattle.sound_state.specs.SoundState.{up_sound, deal_sound, names, mode_sound, across_fits, down_fits, task_sound, gate_sound}
use Rattle.sound_state.specs.Parts.{one_sound, state_sound, room, ups_sound, waitings_sound, channels_sound, waiting_sound}

-- the lists of a task and of a gate have the lengths of their arrays
pub record SizedTask (p : Task) : Type 0 where
  pub waiting : length p.waiting ≡ 16
  pub up : length p.up ≡ 16
  pub across : length p.across ≡ 16

pub record SizedGate (k : Gate) : Type 0 where
  pub down : length k.down ≡ 16

-- The rules by a table: what a request names, and what fits a channel.
module _ (T : Table) where
  abbrev pub names_of : ℕ → Request → Bool
  names_of t r = names T.vectors T.masks t r

  -- "a Held task lies in the named vector and isn't its highest"
  abbrev pub held_sound : ℕ → Mode → Bool
  held_sound t Free = true
  held_sound t (Held r) = names_of t r && is_some (next_above_of (mask_of T.masks r.gate.0 r.vector) t)

  abbrev pub up_rule : ℕ → ℕ → Channel3 → Bool
  up_rule t g c = up_sound (ltb t T.tasks && ltb g T.gates) g c

  abbrev pub across_fit : ℕ → ℕ → Message → Bool
  across_fit a b m = across_fits T.vectors T.masks T.gates a b m

  abbrev pub across_rule : ℕ → ℕ → Channel1 → Bool
  across_rule a b c = one_sound (ltb a T.tasks && ltb b T.tasks) (across_fit a b c.first) c

  abbrev pub down_fit : ℕ → ℕ → Message → Bool
  down_fit g b m = down_fits T.vectors T.masks g b m

  abbrev pub down_rule : ℕ → ℕ → Channel1 → Bool
  down_rule g b c = one_sound (ltb g T.gates && ltb b T.tasks) (down_fit g b c.first) c

  -- a message may come to task t: a LOCK "names an existing vector that holds its receiver"
  abbrev pub comes : ℕ → Message → Bool
  comes t Ready = true
  comes t (Lock r) = names_of t r
  comes t (Commit g) = true
  comes t (Abort g) = true

  -- the rules of task t with n requests waiting, but for one: that none wait where it is Free
  pub record Kept (t n : ℕ) (p : Task) : Type 0 where
    pub sized : SizedTask p
    pub state : state_sound (ltb t T.tasks) (get_or T.states t 0) p.state ≡ true
    pub held : held_sound t p.mode ≡ true
    pub counted : p.count ≡ n
    pub few : n ≤ 16
    pub waiting : (i : ℕ) → i < 16
        → waiting_sound T.vectors T.masks t (ltb i n) (get_or p.waiting i no_request) ≡ true
    pub up : (g : ℕ) → g < 16 → up_rule t g (up_of p g) ≡ true
    pub across : (b : ℕ) → b < 16 → across_rule t b (across_of p b) ≡ true

  -- all the rules of task t
  pub record TaskRules (t : ℕ) (p : Task) : Type 0 where
    pub kept : Kept t p.count p
    pub free : is_free p.mode ≡ true → p.count ≡ 0

  pub record GateRules (g : ℕ) (k : Gate) : Type 0 where
    pub sized : SizedGate k
    pub offers : all_below_of k.offers (room (ltb g T.gates) T.tasks) ≡ true
    pub deal : deal_sound T.vectors g k.deal ≡ true
    pub down : (b : ℕ) → b < 16 → down_rule g b (down_of k b) ≡ true

-- a Free task has an empty list
module _ (T : Table) (t n : ℕ) where
  mode_held : (m : Mode) → mode_sound T.vectors T.masks t n m ≡ true → held_sound T t m ≡ true
  mode_held Free h = refl
  mode_held (Held r) h = h

  mode_free : (m : Mode) → mode_sound T.vectors T.masks t n m ≡ true → is_free m ≡ true → n ≡ 0
  mode_free Free h e = eqb-true n 0 h
  mode_free (Held r) h e = let z : ◌≡◌ {A = Bool} true false = sym e in absurd (true≢false z)

  mode_of : (m : Mode) → held_sound T t m ≡ true → (is_free m ≡ true → n ≡ 0)
      → mode_sound T.vectors T.masks t n m ≡ true
  mode_of Free h e = eq-eqb n 0 (e refl)
  mode_of (Held r) h e = h

module _ (T : Table) where
  pub rules_of : (t n : ℕ) (p : Task) → Kept T t n p → (is_free p.mode ≡ true → n ≡ 0) → TaskRules T t p
  rules_of t n p k e =
      subst (λ (m : ℕ). Kept T t m p → (is_free p.mode ≡ true → m ≡ 0) → TaskRules T t p) k.counted
      (λ k e. record { kept = k; free = e }) k e

  pub task_rules : (t : ℕ) (p : Task) → SizedTask p
      → task_sound T.vectors T.masks T.tasks T.gates t (get_or T.states t 0) p ≡ true → TaskRules T t p
  unfolding task_sound
  task_rules t p z h =
      let A : Bool = state_sound (ltb t T.tasks) (get_or T.states t 0) p.state in
      let B : Bool = mode_sound T.vectors T.masks t p.count p.mode in
      let C : Bool = leb p.count 16 in
      let D : Bool = waitings_sound T.vectors T.masks t p.count p.waiting in
      let E : Bool = ups_sound (ltb t T.tasks) T.gates p.up in
      let F : Bool = channels_sound (ltb t T.tasks) T.tasks (across_fit T t) p.across in
      let one : (A && (B && C)) ≡ true = (and_parts (A && (B && C)) (D && (E && F)) h).0 in
      let two : (D && (E && F)) ≡ true = (and_parts (A && (B && C)) (D && (E && F)) h).1 in
      let bc : (B && C) ≡ true = (and_parts A (B && C) one).1 in
      let ef : (E && F) ≡ true = (and_parts D (E && F) two).1 in
      record {
        kept = record {
          sized = z;
          state = (and_parts A (B && C) one).0;
          held = mode_held T t p.count p.mode ((and_parts B C bc).0);
          counted = refl;
          few = leb-true p.count 16 ((and_parts B C bc).1);
          waiting = below_at 16 _ ((and_parts D (E && F) two).0);
          up = below_at 16 _ ((and_parts E F ef).0);
          across = below_at 16 _ ((and_parts E F ef).1);
        };
        free = mode_free T t p.count p.mode ((and_parts B C bc).0);
      }

  pub task_sound_lem : (t : ℕ) (p : Task) → TaskRules T t p
      → task_sound T.vectors T.masks T.tasks T.gates t (get_or T.states t 0) p ≡ true
  unfolding task_sound
  task_sound_lem t p r =
      let k = r.kept in
      and_from _ _ (and_from _ _ k.state
      (and_from _ _ (mode_of T t p.count p.mode k.held r.free) (le-leb p.count 16 k.few)))
      (and_from _ _ (below_of 16 _ k.waiting) (and_from _ _ (below_of 16 _ k.up) (below_of 16 _ k.across)))

  pub gate_rules : (g : ℕ) (k : Gate) → SizedGate k
      → gate_sound T.vectors T.masks T.tasks T.gates g k ≡ true → GateRules T g k
  unfolding gate_sound
  gate_rules g k z h =
      let A : Bool = all_below_of k.offers (room (ltb g T.gates) T.tasks) in
      let B : Bool = deal_sound T.vectors g k.deal in
      let C : Bool = channels_sound (ltb g T.gates) T.tasks (down_fit T g) k.down in
      let one : (A && B) ≡ true = (and_parts (A && B) C h).0 in
      record {
        sized = z;
        offers = (and_parts A B one).0;
        deal = (and_parts A B one).1;
        down = below_at 16 _ ((and_parts (A && B) C h).1);
      }

  pub gate_sound_lem : (g : ℕ) (k : Gate) → GateRules T g k
      → gate_sound T.vectors T.masks T.tasks T.gates g k ≡ true
  unfolding gate_sound
  gate_sound_lem g k r = and_from _ _ (and_from _ _ r.offers r.deal) (below_of 16 _ r.down)

  pub across_comes : (a b : ℕ) (m : Message) → across_fit T a b m ≡ true → comes T b m ≡ true
  across_comes a b Ready h = refl
  across_comes a b (Lock r) h = (and_parts (ltb a b) (names_of T b r) h).1
  across_comes a b (Commit g) h = refl
  across_comes a b (Abort g) h = refl

  pub down_comes : (g b : ℕ) (m : Message) → down_fit T g b m ≡ true → comes T b m ≡ true
  down_comes g b Ready h = refl
  down_comes g b (Lock r) h = (and_parts (eqb r.gate.0 g) (names_of T b r) h).1
  down_comes g b (Commit c) h = refl
  down_comes g b (Abort c) h = refl
