-- What a sound table says of its parts, rule by rule.
use Rattle.std.specs.Prelude.{Some}
use Prim.Native.Nat.{ℕ, ◌+◌, ◌<◌, ◌≤◌}
use mathlib.Core.Bool.{Bool, true, false, cond, ◌&&◌, not}
use mathlib.Core.Logic.{⊎_elim}
use mathlib.Core.Path.{◌≡◌, refl, sym, ap, ◌∙◌}
use native.Mathlib.Omega.{arith}
use lib.Dec.{eqb, ltb, leb}
use lib.ListN.{get_or, length, get_or-eq_default}
use borrow.Author.Tests.{ltb-true, leb-true, eqb-true, eqb-false, not-true, lt-ltb, le-ltb}
use Rattle.laws.specs.Below.{all_below}
use Rattle.laws.proofs.Numbers.{below_at, each_at}
use Rattle.std.proofs.lemmas.Bool.{cases_Bool, and_parts}
use Rattle.laws.proofs.Tests.{le_or_lt}
use Rattle.sets.specs.Sets.{all_below_of}
use Rattle.table.specs.Tables.{count_in, is_cell, cell_of, move_of, mask_of, new_below}
use Rattle.table.specs.declared.Table.{Table}
use Rattle.table.proofs.Cells.{InRoom, in_room, entry_of, entry_at}
use Rattle.soundness.proofs.Rows.{cell_sound}
use Rattle.soundness.specs.Parts.{task_fits}
use Rattle.soundness.specs.Sound.{task_entry_sound, most_at, moves_sound, vector_fits, gate_entry_sound, sound_table}
use Rattle.soundness.proofs.Rows.{move_sound}

pub record Rules (T : Table) : Type 0 where
  -- "1 to 16 tasks, 1 to 16 gates, 1 to 16 states a task"
  pub some_task : 1 ≤ T.tasks
  pub tasks : T.tasks ≤ 16
  pub some_gate : 1 ≤ T.gates
  pub gates : T.gates ≤ 16
  pub states : (t : ℕ) → t < 16 → get_or T.states t 0 ≤ 16
  -- a present task starts in one of its states; an absent one has none
  pub start : (t : ℕ) → t < T.tasks → get_or T.starts t 0 < get_or T.states t 0
  pub no_states : (t : ℕ) → t < 16 → T.tasks ≤ t → get_or T.states t 0 ≡ 0
  pub no_start : (t : ℕ) → t < 16 → T.tasks ≤ t → get_or T.starts t 0 ≡ 0
  pub moves : (t x g : ℕ) → x < 16 → g < 16 → get_or T.moves (cell_of t x g) 0 ≤ most_at T t x g
  -- "0 to 8 vectors a gate", none at an absent one
  pub vectors : (g : ℕ) → g < 16 → get_or T.vectors g 0 ≤ 8
  pub no_vectors : (g : ℕ) → g < 16 → T.gates ≤ g → get_or T.vectors g 0 ≡ 0
  -- a mask "neither 0 nor names an absent task", and none twice at a gate; past the vectors there is none
  pub mask : (g v : ℕ) → g < 16 → v < get_or T.vectors g 0 → mask_of T.masks g v ≡ 0 → ⊥
  pub members : (g v : ℕ) → g < 16 → v < get_or T.vectors g 0 → all_below_of (mask_of T.masks g v) T.tasks ≡ true
  pub new_mask : (g v w : ℕ) → g < 16 → v < get_or T.vectors g 0 → w < v → mask_of T.masks g w ≡ mask_of T.masks g v → ⊥
  pub no_mask : (g v : ℕ) → g < 16 → get_or T.vectors g 0 ≤ v → mask_of T.masks g v ≡ 0

pub count_some : (n : ℕ) → count_in n ≡ true → 1 ≤ n
count_some n h = leb-true 1 n ((and_parts (leb 1 n) (leb n 16) h).0)

pub count_most : (n : ℕ) → count_in n ≡ true → n ≤ 16
count_most n h = leb-true n 16 ((and_parts (leb 1 n) (leb n 16) h).1)

pub states_le : (present : Bool) (states start : ℕ) → task_fits present states start ≡ true → states ≤ 16
states_le true states start h = count_most states ((and_parts (count_in states) (ltb start states) h).0)
states_le false states start h =
    let e : states ≡ 0 = eqb-true states 0 ((and_parts (eqb states 0) (eqb start 0) h).0) in omega arith

pub count_le : (there : Bool) (n : ℕ) → n ≤ cond there 8 0 → n ≤ 8
count_le true n h = h
count_le false n h = omega arith

module _ (T : Table) (t : ℕ) (h : task_entry_sound T t ≡ true) where
  start_of : t < T.tasks → get_or T.starts t 0 < get_or T.states t 0
  start_of l = ltb-true _ _ ((and_parts (count_in (get_or T.states t 0)) _ (rw (lt-ltb t T.tasks l) at h)).1)

  absent : T.tasks ≤ t → (eqb (get_or T.states t 0) 0 && eqb (get_or T.starts t 0) 0) ≡ true
  absent l = rw (le-ltb t T.tasks l) at h

move_of_lem : (T : Table) → moves_sound T ≡ true → (t x g : ℕ) → x < 16 → g < 16 → get_or T.moves (cell_of t x g) 0 ≤ most_at T t x g
unfolding moves_sound
move_of_lem T h t x g hx hg = ⊎_elim
    (λ (l : length T.moves ≤ cell_of t x g). omega (arith, get_or-eq_default T.moves 0 l))
    (λ (l : cell_of t x g < length T.moves).
    leb-true _ _ (sym (cell_sound T t x g _ hx hg) ∙ each_at (move_sound T) T.moves h (cell_of t x g) l))
    (le_or_lt (length T.moves) (cell_of t x g))

module _ (T : Table) (g : ℕ) (h : gate_entry_sound T g ≡ true) where
  abbrev count : ℕ
  count = get_or T.vectors g 0

  few : count ≤ cond (ltb g T.gates) 8 0
  few = leb-true _ _ ((and_parts _ _ h).0)

  at_most : count ≤ 8
  at_most = count_le (ltb g T.gates) count few

  none : T.gates ≤ g → count ≡ 0
  none l = let n : count ≤ 0 = rw (le-ltb g T.gates l) at few in omega arith

  fits : (v : ℕ) → v < 8 → vector_fits T.masks g count T.tasks v ≡ true
  fits = below_at 8 (vector_fits T.masks g count T.tasks) ((and_parts (leb count (cond (ltb g T.gates) 8 0)) _ h).1)

  module _ (v : ℕ) where
    abbrev m : ℕ
    m = mask_of T.masks g v

    mask_fits : v < count → (not (eqb m 0) && (all_below_of m T.tasks && new_below T.masks g v m)) ≡ true
    mask_fits l = rw (lt-ltb v count l) at (fits v (omega (arith, at_most)))

    mask_some : v < count → m ≡ 0 → ⊥
    mask_some l = eqb-false m 0 (not-true _ ((and_parts (not (eqb m 0)) _ (mask_fits l)).0))

    mask_rest : v < count → (all_below_of m T.tasks && new_below T.masks g v m) ≡ true
    mask_rest l = (and_parts (not (eqb m 0)) _ (mask_fits l)).1

    mask_new : v < count → (w : ℕ) → w < v → mask_of T.masks g w ≡ m → ⊥
    unfolding new_below
    mask_new l w k = eqb-false _ m (not-true _
        (below_at v (λ (w : ℕ). not (eqb (mask_of T.masks g w) m)) ((and_parts (all_below_of m T.tasks) _ (mask_rest l)).1) w k))

    mask_none : count ≤ v → m ≡ 0
    mask_none l = ⊎_elim
        (λ (k : 8 ≤ v). rw (le-ltb v 8 k))
        (λ (k : v < 8). eqb-true m 0 (rw (le-ltb v count l) at (fits v k)))
        (le_or_lt 8 v)

pub sound_rules : (T : Table) → sound_table T ≡ true → Rules T
unfolding sound_table
sound_rules T h =
    let A : Bool = count_in T.tasks in
    let B : Bool = count_in T.gates in
    let C : Bool = all_below 16 (task_entry_sound T) in
    let D : Bool = moves_sound T in
    let E : Bool = all_below 16 (gate_entry_sound T) in
    let counts : (A && B) ≡ true = (and_parts (A && B) (C && (D && E)) h).0 in
    let rest : (C && (D && E)) ≡ true = (and_parts (A && B) (C && (D && E)) h).1 in
    let last : (D && E) ≡ true = (and_parts C (D && E) rest).1 in
    let most : T.tasks ≤ 16 = count_most T.tasks ((and_parts A B counts).0) in
    let task = below_at 16 (task_entry_sound T) ((and_parts C (D && E) rest).0) in
    let gate = below_at 16 (gate_entry_sound T) ((and_parts D E last).1) in
    record {
      some_task = count_some T.tasks ((and_parts A B counts).0);
      tasks = most;
      some_gate = count_some T.gates ((and_parts A B counts).1);
      gates = count_most T.gates ((and_parts A B counts).1);
      states = λ t l. states_le (ltb t T.tasks) (get_or T.states t 0) (get_or T.starts t 0) (task t l);
      start = λ t l. start_of T t (task t (omega arith)) l;
      no_states = λ t l k. eqb-true _ _ ((and_parts _ _ (absent T t (task t l) k)).0);
      no_start = λ t l k. eqb-true _ _ ((and_parts (eqb (get_or T.states t 0) 0) _ (absent T t (task t l) k)).1);
      moves = move_of_lem T ((and_parts D E last).0);
      vectors = λ g l. at_most T g (gate g l);
      no_vectors = λ g l. none T g (gate g l);
      mask = λ g v l. mask_some T g (gate g l) v;
      members = λ g v l k. (and_parts _ _ (mask_rest T g (gate g l) v k)).0;
      new_mask = λ g v w l k. mask_new T g (gate g l) v k w;
      no_mask = λ g v l. mask_none T g (gate g l) v;
    }

-- where a count is 0 from n on, an index with more than 0 is below n
pub below_by : (n i count : ℕ) → (n ≤ i → count ≡ 0) → 0 < count → i < n
below_by n i count h l = ⊎_elim
    (λ (k : n ≤ i). absurd (omega (arith, h k)))
    (λ (k : i < n). k)
    (le_or_lt n i)

-- a transition (t, x, g) to y: its task, states and gate are present
pub record Leads (T : Table) (t x g y : ℕ) : Type 0 where
  pub task : t < T.tasks
  pub state : x < get_or T.states t 0
  pub gate : g < T.gates
  pub target : y < get_or T.states t 0

inside : (a b : Bool) (n most : ℕ) → n ≤ cond (a && b) most 0 → 0 < n → (a ≡ true) × ((b ≡ true) × (n ≤ most))
inside true true n most h l = (refl, (refl, h))
inside true false n most h l = absurd (omega arith)
inside false b n most h l = absurd (omega arith)

pub move_leads : (T : Table) → Rules T → (t x g y : ℕ) → move_of T.moves t x g ≡ Some y → Leads T t x g y
move_leads T p t x g y e = ⊎_elim
    (λ (r : is_cell t x g ≡ true).
    let c : InRoom t x g = in_room t x g r in
    let n : get_or T.moves (cell_of t x g) 0 ≡ y + 1 = sym (entry_at T.moves t x g r) ∙ ap entry_of e in
    let most : ℕ = get_or T.states t 0 in
    let i = inside (ltb x most) (ltb g T.gates) (get_or T.moves (cell_of t x g) 0) most (p.moves t x g c.state c.gate) (omega arith) in
    let s : x < most = ltb-true x most i.0 in
    record {
      task = below_by T.tasks t most (p.no_states t c.task) (omega arith);
      state = s;
      gate = ltb-true g T.gates i.1.0;
      target = omega (arith, i.1.1);
    })
    (λ (r : is_cell t x g ≡ false). absurd (omega (arith, ap entry_of (rw r at e))))
    (cases_Bool (is_cell t x g))
