-- Laws of the ends of a set: its lowest member, the lowest above a task, and its highest.
-- `-says` and `-nobody` say what an answer means; `-is` and `-none`, that what it means makes it the answer.
use Prim.Native.Nat.{ℕ, suc, ◌+◌, ◌-◌, ◌<◌, ◌≤◌}
use mathlib.Core.Bool.{Bool, true, false, cond, true≢false}
use mathlib.Core.Logic.{⊎_elim}
use mathlib.Core.Path.{◌≡◌, refl, sym, ap, subst, ◌∙◌}
use native.Mathlib.Omega.{arith}
use lib.Dec.{ltb}
use borrow.Author.Tests.{ltb-true, ltb-false, lt-ltb, le-ltb, eq-eqb, eqb-true}
use Rattle.laws.specs.Below.{first_from}
use Rattle.laws.specs.Last.{last_below}
use Rattle.laws.proofs.Searches.{First, first_says, first_is, Last, found, nowhere, last_says, last_is}
use Rattle.laws.proofs.Tests.{le_or_lt}
use Rattle.numbers.specs.declared.TaskNo.{TaskNo}
use Rattle.std.specs.Prelude.{Option, Some, None}
use Rattle.sets.specs.Sets.{member_of, found_of, lowest_of, next_above_of}
use Rattle.sets.specs.Highest.{highest_of, is_found, is_highest_of}

-- t is the first member from a number on
pub record FirstMember (set from : ℕ) (t : TaskNo) : Type 0 where
  pub member : member_of set t.0 ≡ true
  pub low : from ≤ t.0
  pub high : t.0 < 16
  pub before : (k : ℕ) → from ≤ k → k < t.0 → member_of set k ≡ false

-- t is the last member
pub record LastMember (set : ℕ) (t : TaskNo) : Type 0 where
  pub member : member_of set t.0 ≡ true
  pub high : t.0 < 16
  pub after : (k : ℕ) → t.0 < k → k < 16 → member_of set k ≡ false

-- what was found
pub found_task : (n : ℕ) (t : TaskNo) → found_of n ≡ Some t → (n ≡ t.0) × (n < 16)
found_task n t e = turn (ltb n 16) refl e
  where
    turn : (b : Bool) → ltb n 16 ≡ b → cond {A = Option TaskNo} b (Some (record { 0 = n })) None ≡ Some t → (n ≡ t.0) × (n < 16)
    turn true l h = let q : record { 0 = n } ≡ t = cc in (ap (λ (x : TaskNo). x.0) q, ltb-true n 16 l)
    turn false l h = let z : ◌≡◌ {A = ℕ} 0 1 = cc in absurd (omega arith)

pub found_nobody : (n : ℕ) → found_of n ≡ None → 16 ≤ n
found_nobody n e = turn (ltb n 16) refl e
  where
    turn : (b : Bool) → ltb n 16 ≡ b → cond {A = Option TaskNo} b (Some (record { 0 = n })) None ≡ None → 16 ≤ n
    turn true l h = let z : ◌≡◌ {A = ℕ} 0 1 = cc in absurd (omega arith)
    turn false l h = ltb-false n 16 l

pub task_found : (n : ℕ) (t : TaskNo) → n ≡ t.0 → t.0 < 16 → found_of n ≡ Some t
task_found n t e h = rw (e, lt-ltb t.0 16 h)

pub nobody_found : (n : ℕ) → 16 ≤ n → found_of n ≡ None
nobody_found n h = rw (le-ltb n 16 h)

-- the first member from i on, where n numbers reach to 16
module _ (set i n : ℕ) (reach : 16 ≤ i + n) where
  first_task : (t : TaskNo) → found_of (first_from i n (member_of set)) ≡ Some t → FirstMember set i t
  first_task t e =
      let f = found_task (first_from i n (member_of set)) t e in
      let h = subst (λ (r : ℕ). First (member_of set) i n r) f.0 (first_says (member_of set) i n) in
      record { member = h.holds (omega arith); low = h.low; high = omega arith; before = h.before }

  first_nobody : found_of (first_from i n (member_of set)) ≡ None → (k : ℕ) → i ≤ k → k < 16 → member_of set k ≡ false
  first_nobody e k l m =
      let f = found_nobody (first_from i n (member_of set)) e in
      (first_says (member_of set) i n).before k l (omega arith)

  is_first : (t : TaskNo) → FirstMember set i t → found_of (first_from i n (member_of set)) ≡ Some t
  is_first t h = task_found (first_from i n (member_of set)) t
      (first_is (member_of set) i n t.0
      record { low = h.low; high = omega arith; holds = λ l. h.member; before = h.before })
      h.high

  none_first : ((k : ℕ) → i ≤ k → k < 16 → member_of set k ≡ false) → found_of (first_from i n (member_of set)) ≡ None
  none_first h = nobody_found (first_from i n (member_of set)) (⊎_elim
      (λ (l : 16 ≤ first_from i n (member_of set)). l)
      (λ (l : first_from i n (member_of set) < 16).
      let f = first_says (member_of set) i n in
      absurd (true≢false (sym (f.holds (omega arith)) ∙ h (first_from i n (member_of set)) f.low l)))
      (le_or_lt 16 (first_from i n (member_of set))))

module _ (set : ℕ) where
  pub lowest_says : (t : TaskNo) → lowest_of set ≡ Some t → FirstMember set 0 t
  lowest_says = first_task set 0 16 (omega arith)

  pub lowest_nobody : lowest_of set ≡ None → (k : ℕ) → k < 16 → member_of set k ≡ false
  lowest_nobody e k = first_nobody set 0 16 (omega arith) e k (omega arith)

  pub lowest_is : (t : TaskNo) → FirstMember set 0 t → lowest_of set ≡ Some t
  lowest_is = is_first set 0 16 (omega arith)

  pub lowest_none : ((k : ℕ) → k < 16 → member_of set k ≡ false) → lowest_of set ≡ None
  lowest_none h = none_first set 0 16 (omega arith) (λ k l. h k)

  pub next_says : (t : ℕ) (u : TaskNo) → next_above_of set t ≡ Some u → FirstMember set (suc t) u
  next_says t = first_task set (suc t) (15 - t) (omega arith)

  pub next_nobody : (t : ℕ) → next_above_of set t ≡ None → (k : ℕ) → t < k → k < 16 → member_of set k ≡ false
  next_nobody t = first_nobody set (suc t) (15 - t) (omega arith)

  pub next_is : (t : ℕ) (u : TaskNo) → FirstMember set (suc t) u → next_above_of set t ≡ Some u
  next_is t = is_first set (suc t) (15 - t) (omega arith)

  pub next_none : (t : ℕ) → ((k : ℕ) → t < k → k < 16 → member_of set k ≡ false) → next_above_of set t ≡ None
  next_none t = none_first set (suc t) (15 - t) (omega arith)

  pub highest_says : (t : TaskNo) → highest_of set ≡ Some t → LastMember set t
  highest_says t e = turn
      (subst (λ (r : ℕ). Last (member_of set) 16 16 r) f.0 (last_says (member_of set) 16 16))
      (subst (λ (r : ℕ). r < 16) f.0 f.1)
    where
      f : (last_below 16 (member_of set) 16 ≡ t.0) × (last_below 16 (member_of set) 16 < 16)
      f = found_task (last_below 16 (member_of set) 16) t e

      turn : Last (member_of set) 16 16 t.0 → t.0 < 16 → LastMember set t
      turn (found l p h) m = record { member = p; high = l; after = h }
      turn (nowhere q h) m = absurd (omega arith)

  pub highest_nobody : highest_of set ≡ None → (k : ℕ) → k < 16 → member_of set k ≡ false
  highest_nobody e = turn (last_says (member_of set) 16 16) (found_nobody (last_below 16 (member_of set) 16) e)
    where
      turn : {r : ℕ} → Last (member_of set) 16 16 r → 16 ≤ r → (k : ℕ) → k < 16 → member_of set k ≡ false
      turn (found l p h) m = absurd (omega arith)
      turn (nowhere q h) m = h

  pub highest_is : (t : TaskNo) → LastMember set t → highest_of set ≡ Some t
  highest_is t h = task_found (last_below 16 (member_of set) 16) t
      (last_is (member_of set) 16 16 t.0 (found h.high h.member h.after))
      h.high

  pub highest_none : ((k : ℕ) → k < 16 → member_of set k ≡ false) → highest_of set ≡ None
  highest_none h = nobody_found (last_below 16 (member_of set) 16)
      (let e = last_is (member_of set) 16 16 16 (nowhere refl h) in omega arith)

  -- the highest has no higher one in the set, and a member that is not the highest has
  pub highest_no_next : (t : ℕ) → is_highest_of set t ≡ true → next_above_of set t ≡ None
  highest_no_next t e = turn (highest_of set) refl e
    where
      turn : (f : Option TaskNo) → highest_of set ≡ f → is_found t f ≡ true → next_above_of set t ≡ None
      turn None h i = absurd (true≢false (sym i))
      turn (Some b) h i =
          let s = highest_says b h in
          let q : b.0 ≡ t = eqb-true b.0 t i in
          next_none t (λ k l m. s.after k (omega arith) m)

  pub lower_has_next : (t : ℕ) → member_of set t ≡ true → t < 16 → is_highest_of set t ≡ false → (b : TaskNo) × (next_above_of set t ≡ Some b)
  lower_has_next t m l e = turn (next_above_of set t) refl
    where
      turn : (f : Option TaskNo) → next_above_of set t ≡ f → (b : TaskNo) × (next_above_of set t ≡ Some b)
      turn (Some b) h = (b, h)
      turn None h =
          let top : highest_of set ≡ Some (record { 0 = t }) =
          highest_is (record { 0 = t }) (record { member = m; high = l; after = next_nobody t h }) in
          let same : is_highest_of set t ≡ true = rw (top, eq-eqb t t refl) in
          absurd (true≢false (sym same ∙ e))
