-- The table as the protocol reads it, and that a sound one keeps what the protocol asks of a table.
use Rattle.std.specs.Prelude.{Option, Some, None}
use Prim.Native.Nat.{ℕ, ◌*◌, ◌+◌, ◌<◌, ◌^◌, ◌≤◌}
use mathlib.Core.Bool.{Bool, ◌||◌, cond, false, not, true}
use mathlib.Core.Logic.{⊎_elim}
use mathlib.Core.Path.{◌≡◌, ◌∙◌, ap, refl, sym}
use native.Mathlib.Nat.{le_trans}
use native.Mathlib.Omega.{arith}
use lib.Dec.{ltb}
use lib.ListN.{get_or-eq_default, get_or}
use lib.Pow.{pow_mono, pow_pos}
use borrow.Author.Tests.{eqb-true, ltb-false, ltb-true}
use Rattle.laws.specs.Below.{all_below, first_from}
use Rattle.laws.proofs.Numbers.{below_at, below_of}
use Rattle.laws.proofs.Searches.{first_says}
use Rattle.laws.proofs.Tests.{le_or_lt, same_test}
use Rattle.sets.specs.Sets.{lowest_of, member_of, next_above_of, subset_of}
use Rattle.numbers.specs.declared.TaskNo.{TaskNo}
use Rattle.sets.proofs.Ends.{lowest_nobody, lowest_says, next_nobody, next_says}
use Rattle.sets.proofs.Members.{below_power, member_below, member_none, no_members, subset_at, subset_of_lem}
use Rattle.table.specs.Tables.{is_move, mask_of, move_of, ready_of}
use Rattle.table.specs.declared.Table.{Table}
use Rattle.soundness.specs.Sound.{sound_table}
use Rattle.soundness.proofs.Rules.{Leads, Rules, below_by, move_leads, sound_rules}
use Rattle.accepted.proofs.Reached.{Sized}
use Rattle.machine.specs.Machine.{moved, starts, takes_part}
use Rattle.protocol.specs.Plans.{Plan}
use Rattle.protocol.proofs.Cases.{clash}
use Rattle.protocol.proofs.Invariant.{NoneFits, PlanRight}

abbrev pub found_task : Option TaskNo → Option ℕ
found_task None = None
found_task (Some t) = Some t.0

abbrev pub number_of : Option TaskNo → ℕ
number_of None = 0
number_of (Some t) = t.0

-- every task of the mask is offered
abbrev pub covered_by : ℕ → (ℕ → Bool) → Bool
covered_by mask offers = all_below 16 (λ (t : ℕ). not (member_of mask t) || offers t)

-- the first of n vectors that passes
abbrev pub first_of : ℕ → (ℕ → Bool) → Option ℕ
first_of n passes = cond (ltb (first_from 0 n passes) n) (Some (first_from 0 n passes)) None

abbrev pub plan_of : Table → Plan
plan_of T = record {
  tasks = T.tasks;
  gates = T.gates;
  holds = takes_part T;
  ready = ready_of T.moves;
  target = λ t x g. moved x (move_of T.moves t x g);
  start = starts T;
  lowest = λ g v. number_of (lowest_of (mask_of T.masks g v));
  next_above = λ g v b. found_task (next_above_of (mask_of T.masks g v) b);
  fitting = λ g offers. first_of (get_or T.vectors g 0) (λ v. covered_by (mask_of T.masks g v) offers);
}

-- a vector that holds a task: vector, gate and task are present
pub record Present (T : Table) (g v t : ℕ) : Type 0 where
  pub task : t < T.tasks
  pub gate : g < T.gates
  pub vector : v < get_or T.vectors g 0

-- all that the link asks of a table
pub record Lawful (T : Table) : Type 0 where
  pub sound : sound_table T ≡ true
  pub sized : Sized T
  pub rules : Rules T
  pub present : (g v t : ℕ) → member_of (mask_of T.masks g v) t ≡ true → Present T g v t
  pub member : (g v : ℕ) → v < get_or T.vectors g 0 → (b : ℕ) × (member_of (mask_of T.masks g v) b ≡ true)
  pub small : (g v : ℕ) → mask_of T.masks g v < 2 ^ 16
  pub leads : (t x g : ℕ) → ready_of T.moves t x g ≡ true → Leads T t x g (moved x (move_of T.moves t x g))
  pub right : PlanRight (plan_of T)
  pub no_start : (t : ℕ) → T.tasks ≤ t → get_or T.starts t 0 ≡ 0

module _ (T : Table) (R : Rules T) (z : Sized T) where
  -- gate 16 and those above have no mask
  outside : (g v : ℕ) → 16 ≤ g → mask_of T.masks g v ≡ 0
  outside g v h = turn (ltb v 8)
    where
      turn : (b : Bool) → cond b (get_or T.masks (g * 8 + v) 0) 0 ≡ 0
      turn true = get_or-eq_default T.masks 0 {n = g * 8 + v} (omega (arith, z.masks))
      turn false = refl

  no_mask_lem : (g v : ℕ) → get_or T.vectors g 0 ≤ v → mask_of T.masks g v ≡ 0
  no_mask_lem g v h = ⊎_elim (λ (l : 16 ≤ g). outside g v l) (λ (l : g < 16). R.no_mask g v l h) (le_or_lt 16 g)

  -- a gate with a vector is one of the 16, and present
  vector_gate : (g v : ℕ) → v < get_or T.vectors g 0 → (g < 16) × (g < T.gates)
  vector_gate g v h = ⊎_elim
      (λ (l : 16 ≤ g). absurd (omega (arith, get_or-eq_default T.vectors 0 {n = g} (omega (arith, z.vectors)))))
      (λ (l : g < 16). (l, below_by T.gates g (get_or T.vectors g 0) (R.no_vectors g l) (omega arith)))
      (le_or_lt 16 g)

  members_below : (g v : ℕ) → v < get_or T.vectors g 0 → mask_of T.masks g v < 2 ^ T.tasks
  members_below g v h = below_power T.tasks (mask_of T.masks g v)
      (eqb-true _ 0 (R.members g v (vector_gate g v h).0 h))

  present_of : (g v t : ℕ) → member_of (mask_of T.masks g v) t ≡ true → Present T g v t
  present_of g v t m = ⊎_elim
      (λ (h : get_or T.vectors g 0 ≤ v). clash (sym m ∙ ap (λ (n : ℕ). member_of n t) (no_mask_lem g v h) ∙ member_none t))
      (λ (h : v < get_or T.vectors g 0). record {
        task = member_below T.tasks (mask_of T.masks g v) t (members_below g v h) m;
        gate = (vector_gate g v h).1;
        vector = h;
      })
      (le_or_lt (get_or T.vectors g 0) v)

  small_of : (g v : ℕ) → mask_of T.masks g v < 2 ^ 16
  small_of g v = ⊎_elim
      (λ (h : get_or T.vectors g 0 ≤ v). rw (no_mask_lem g v h) (pow_pos 16))
      (λ (h : v < get_or T.vectors g 0). le_trans (members_below g v h) (pow_mono R.tasks))
      (le_or_lt (get_or T.vectors g 0) v)

  no_start_lem : (t : ℕ) → T.tasks ≤ t → get_or T.starts t 0 ≡ 0
  no_start_lem t h = ⊎_elim
      (λ (l : 16 ≤ t). get_or-eq_default T.starts 0 {n = t} (omega (arith, z.starts)))
      (λ (l : t < 16). R.no_start t l h)
      (le_or_lt 16 t)

  -- a task that is ready moves to a state of its own
  leads : (t x g : ℕ) → ready_of T.moves t x g ≡ true → Leads T t x g (moved x (move_of T.moves t x g))
  leads t x g r = turn (move_of T.moves t x g) refl r
    where
      turn : (m : Option ℕ) → move_of T.moves t x g ≡ m → is_move m ≡ true → Leads T t x g (moved x m)
      turn None e h = clash (sym h)
      turn (Some y) e h = move_leads T R t x g y e

  -- the next higher task of a vector
  next_some : (mask b c : ℕ) (f : Option TaskNo) → next_above_of mask b ≡ f → found_task f ≡ Some c
      → (member_of mask c ≡ true) × (b < c) × ((t : ℕ) → member_of mask t ≡ true → b < t → c ≤ t)
  next_some mask b c None e h = clash (cc)
  next_some mask b c (Some u) e h =
      let q : u.0 ≡ c = cc in
      let n = next_says mask b u e in (
        rw (← q) n.member,
        rw (← q) n.low,
        λ t m l. ⊎_elim
            (λ (k : c ≤ t). k)
            (λ (k : t < c). clash (sym m ∙ n.before t l (omega arith)))
            (le_or_lt c t),
      )

  next_none : (g v b : ℕ) (f : Option TaskNo) → next_above_of (mask_of T.masks g v) b ≡ f → found_task f ≡ None
      → (t : ℕ) → member_of (mask_of T.masks g v) t ≡ true → t ≤ b
  next_none g v b (Some u) e h t m = clash (cc)
  next_none g v b None e h t m = ⊎_elim
      (λ (k : t ≤ b). k)
      (λ (k : b < t). clash (sym m ∙ next_nobody (mask_of T.masks g v) b e t k
      (let p = (present_of g v t m).task in omega (arith, R.tasks))))
      (le_or_lt t b)

  -- the vector that a search finds, and that it finds one
  first_below : (n v : ℕ) (passes : ℕ → Bool) → first_of n passes ≡ Some v → v < n
  first_below n v passes e = turn (ltb (first_from 0 n passes) n) refl e
    where
      turn : (b : Bool) → ltb (first_from 0 n passes) n ≡ b → cond b (Some (first_from 0 n passes)) None ≡ Some v → v < n
      turn true h q = let p : first_from 0 n passes ≡ v = cc in let l = ltb-true (first_from 0 n passes) n h in omega arith
      turn false h q = clash (cc)

  first_none : (n v : ℕ) (passes : ℕ → Bool) → first_of n passes ≡ None → v < n → passes v ≡ true → ⊥
  first_none n v passes e l p = turn (ltb (first_from 0 n passes) n) refl e
    where
      turn : (b : Bool) → ltb (first_from 0 n passes) n ≡ b → ◌≡◌ {A = Option ℕ} (cond b (Some (first_from 0 n passes)) None) None → ⊥
      turn true h q = clash (cc)
      turn false h q =
          let k = ltb-false (first_from 0 n passes) n h in
          clash (sym p ∙ (first_says passes 0 n).before v (omega arith) (omega arith))

  covered_of : (mask : ℕ) (offers : ℕ → Bool) → ((t : ℕ) → member_of mask t ≡ true → offers t ≡ true)
      → covered_by mask offers ≡ true
  covered_of mask offers h = below_of 16 _ (λ t l. turn t (member_of mask t) refl)
    where
      turn : (t : ℕ) (b : Bool) → member_of mask t ≡ b → (not b || offers t) ≡ true
      turn t true e = h t e
      turn t false e = refl

  no_fit : (g : ℕ) (offers : ℕ → Bool) → (plan_of T).fitting g offers ≡ None → NoneFits (plan_of T) offers g
  no_fit g offers e v b m h =
      first_none (get_or T.vectors g 0) v (λ v. covered_by (mask_of T.masks g v) offers) e
      (present_of g v b m).vector (covered_of (mask_of T.masks g v) offers h)

  lowest_in : (g v : ℕ) → v < get_or T.vectors g 0 → (f : Option TaskNo) → lowest_of (mask_of T.masks g v) ≡ f
      → (member_of (mask_of T.masks g v) (number_of f) ≡ true)
      × ((t : ℕ) → member_of (mask_of T.masks g v) t ≡ true → number_of f ≤ t)
  lowest_in g v h None e = absurd (R.mask g v (vector_gate g v h).0 h
      (no_members 16 (mask_of T.masks g v) (small_of g v) (lowest_nobody (mask_of T.masks g v) e)))
  lowest_in g v h (Some u) e =
      let n = lowest_says (mask_of T.masks g v) u e in (
        n.member,
        λ t m. ⊎_elim
            (λ (k : u.0 ≤ t). k)
            (λ (k : t < u.0). clash (sym m ∙ n.before t (omega arith) k))
            (le_or_lt u.0 t),
      )

  right_of : PlanRight (plan_of T)
  right_of = record {
    task_there = λ g v t m. (present_of g v t m).task;
    gate_there = λ g v t m. (present_of g v t m).gate;
    next_some = λ g v b c h. next_some (mask_of T.masks g v) b c (next_above_of (mask_of T.masks g v) b) refl h;
    next_none = λ g v b h. next_none g v b (next_above_of (mask_of T.masks g v) b) refl h;
    fitting_none = no_fit;
    lowest_in = λ g v offers e. (lowest_in g v (first_below _ v _ e) (lowest_of (mask_of T.masks g v)) refl).0;
    lowest_low = λ g v offers e. (lowest_in g v (first_below _ v _ e) (lowest_of (mask_of T.masks g v)) refl).1;
  }

pub lawful : (T : Table) → sound_table T ≡ true → Sized T → Lawful T
lawful T h z =
    let R = sound_rules T h in
    record {
      sound = h;
      sized = z;
      rules = R;
      present = present_of T R z;
      member = λ g v l. (
        number_of (lowest_of (mask_of T.masks g v)),
        (lowest_in T R z g v l (lowest_of (mask_of T.masks g v)) refl).0,
      );
      small = small_of T R z;
      leads = leads T R z;
      right = right_of T R z;
      no_start = no_start_lem T R z;
    }

-- "whose tasks are all in the offers", as the desk tests it and as the protocol does
pub subset_covered : (mask offers : ℕ) → mask < 2 ^ 16 → subset_of mask offers ≡ covered_by mask (member_of offers)
subset_covered mask offers h = same_test (subset_of mask offers) (covered_by mask (member_of offers))
    (λ e. below_of 16 _ (λ t l. there t (member_of mask t) refl (subset_at mask offers t e)))
    (λ e. subset_of_lem 16 mask offers h (λ t l m. returned (member_of mask t) (member_of offers t) m (below_at 16 _ e t l)))
  where
    there : (t : ℕ) (b : Bool) → member_of mask t ≡ b → (member_of mask t ≡ true → member_of offers t ≡ true)
        → (not b || member_of offers t) ≡ true
    there t true e k = k e
    there t false e k = refl

    returned : (a b : Bool) → a ≡ true → (not a || b) ≡ true → b ≡ true
    returned true b e k = k
    returned false b e k = clash (sym e)
