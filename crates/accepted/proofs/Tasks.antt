-- A system record and a task record keep what holds.
use Prim.Native.Nat.{ℕ, suc, zero, ◌+◌, ◌*◌, ◌<◌, ◌≤◌}
use mathlib.Core.Bool.{Bool, true, false, cond, ◌&&◌, true≢false}
use mathlib.Core.Logic.{⊎_elim}
use mathlib.Core.Path.{◌≡◌, refl, sym, ap, ◌∙◌, subst}
use native.Mathlib.Omega.{arith}
use lib.Dec.{eqb, ltb, eqb-suc-zero}
use lib.ListN.{get_or, length-set}
use lib.Seq.{get_or-set_same}
use borrow.Author.Tests.{ltb-true, eqb-true, lt-ltb, le-ltb}
use Rattle.laws.proofs.Stores.{set_at, zero_at}
use Rattle.std.proofs.lemmas.List.{get_or-set_other}
use Rattle.std.proofs.lemmas.Bool.{cases_eq, and_parts}
use Rattle.laws.proofs.Tests.{ltb_other}
use Rattle.numbers.specs.declared.TaskNo.{TaskNo}
use Rattle.records.specs.declared.Record.TheVariants.{System, Task}
use Rattle.table.specs.Tables.{count_in, cell_of, mask_of, empty_table, with_counts, with_states}
use Rattle.table.specs.declared.Table.{Table}
use Rattle.soundness.proofs.Rules.{count_most}
use Rattle.reader.specs.Parts.{loading, none_came}
use Rattle.reader.specs.Rules.{allowed_kind, in_range, in_order, with_record, after_record}
use Rattle.reader.specs.declared.Progress.{Progress}
use Rattle.accepted.proofs.Passed.{Fields}
use Rattle.accepted.proofs.Reached.{Reached, Sized, TasksFit, MovesFit, system_bytes, system_le}

no_mask_lem : (g v : ℕ) → mask_of empty_table.masks g v ≡ 0
no_mask_lem g v = turn (ltb v 8)
  where
    turn : (t : Bool) → cond t (get_or empty_table.masks (g * 8 + v) 0) 0 ≡ 0
    turn true = zero_at 128 (g * 8 + v)
    turn false = refl

-- the empty table with any counts within bounds
counted_reached : (at a b kind : ℕ) → a ≤ 16 → b ≤ 16 → at ≤ system_bytes kind
    → (kind ≡ 0 → (a ≡ 0) × (b ≡ 0)) → ((kind ≡ 0 → ⊥) → (count_in a && count_in b) ≡ true)
    → Reached at (with_counts empty_table a b) (record { kind = kind; came = 0; floor = 0; gate = record { 0 = 0 } })
counted_reached at a b kind x y z none some = record {
  begun = λ (e : kind ≡ 0). (rw ((none e).0, (none e).1), rw e);
  counted = some;
  tasks = x;
  gates = y;
  came = omega arith;
  sized = record { states = refl; starts = refl; moves = refl; vectors = refl; masks = refl };
  tasks_fit = λ (t : ℕ). rw (le-ltb t 0 (omega arith), zero_at 16 t);
  moves_fit = λ (t x g : ℕ) (h : x < 16) (k : g < 16). omega (arith, zero_at 4096 (cell_of t x g));
  counts_fit = λ (g : ℕ). omega (arith, zero_at 16 g);
  masks_fit = λ (g v : ℕ) (h : v < 8). rw (zero_at 16 g, le-ltb v 0 (omega arith), no_mask_lem g v);
  floor = omega arith;
  gate = omega arith;
  size = omega (arith, zero_at 16 0);
}

pub first_reached : Reached 0 empty_table none_came
first_reached = counted_reached 0 0 0 0 (omega arith) (omega arith) (omega arith) (λ (e : ◌≡◌ {A = ℕ} 0 0). (refl, refl)) (λ (n : ◌≡◌ {A = ℕ} 0 0 → ⊥). absurd (n refl))

first_kind : (before : ℕ) → allowed_kind before 1 ≡ true → before ≡ 0
first_kind zero h = refl
first_kind (suc b) h = absurd (true≢false (sym (rw eqb-suc-zero at h)))

pub system_reached : (at : ℕ) (T : Table) (p : Progress) (a b : ℕ) → Reached at T p → allowed_kind p.kind 1 ≡ true → Fields (loading T p) (System a b)
    → Reached (at + 6) (with_record T (System a b)) (after_record p (System a b))
unfolding in_range with_record after_record
system_reached at T p a b r k f =
    let z = r.begun (first_kind p.kind k) in
    let c : (count_in a && count_in b) ≡ true = f.range in
    let x : a ≤ 16 = count_most a ((and_parts (count_in a) (count_in b) c).0) in
    let y : b ≤ 16 = count_most b ((and_parts (count_in a) (count_in b) c).1) in
    let s : at ≤ 0 = omega (arith, rw (z.0, z.1) at r.size, zero_at 16 0) in
    rw (z.0, z.1) (counted_reached (at + 6) a b 1 x y (omega arith) (λ (e : ◌≡◌ {A = ℕ} 1 0). absurd (omega arith)) (λ n. c))

module _ (T : Table) (n states start : ℕ) (s : Sized T) (room : n < 16) where
  one_more_task : TasksFit T n → (count_in states && ltb start states) ≡ true → TasksFit (with_states T n states start) (n + 1)
  one_more_task f h t = ⊎_elim
      (λ (e : t ≡ n). rw (e, lt-ltb n (n + 1) (omega arith), get_or-set_same T.states n states 0 (omega (arith, s.states)), get_or-set_same T.starts n start 0 (omega (arith, s.starts))) h)
      (λ (e : t ≡ n → ⊥). rw (ltb_other t n e, get_or-set_other T.states n t states 0 e, get_or-set_other T.starts n t start 0 e) (f t))
      (cases_eq t n)

  -- an absent task has no moves, so that its new states allow them
  moves_of_others : MovesFit T → get_or T.states n 0 ≡ 0 → MovesFit (with_states T n states start)
  moves_of_others f z t x g h k =
      set_at T.states n t states (λ (m : ℕ). get_or T.moves (cell_of t x g) 0 ≤ cond (ltb x m && ltb g T.gates) m 0)
      (λ (e : t ≡ n).
      let y : get_or T.moves (cell_of t x g) 0 ≤ 0 =
      subst (λ (m : ℕ). get_or T.moves (cell_of t x g) 0 ≤ m) (same (ltb x 0 && ltb g T.gates))
      (subst (λ (m : ℕ). get_or T.moves (cell_of t x g) 0 ≤ cond (ltb x m && ltb g T.gates) m 0) (ap (λ (i : ℕ). get_or T.states i 0) e ∙ z) (f t x g h k)) in
      omega arith)
      (f t x g h k)
    where
      same : (b : Bool) → ◌≡◌ {A = ℕ} (cond b 0 0) 0
      same true = refl
      same false = refl

pub task_reached : (at : ℕ) (T : Table) (p : Progress) (t : TaskNo) (states start : ℕ) → Reached at T p → Fields (loading T p) (Task t states start)
    → Reached (at + 7) (with_record T (Task t states start)) (after_record p (Task t states start))
unfolding in_range in_order with_record after_record
task_reached at T p t states start r f =
    let n : ℕ = t.0 in
    let a : n < T.tasks = ltb-true n T.tasks ((and_parts (ltb n T.tasks) (count_in states && ltb start states) f.range).0) in
    let c : (count_in states && ltb start states) ≡ true = (and_parts (ltb n T.tasks) (count_in states && ltb start states) f.range).1 in
    let e : n ≡ p.came = eqb-true n p.came f.order in
    let room : n < 16 = omega (arith, r.tasks) in
    let begun : p.kind ≡ 0 → ⊥ = λ (q : p.kind ≡ 0). omega (arith, a, ap (λ (U : Table). U.tasks) (r.begun q).0) in
    let old : TasksFit T n = rw e r.tasks_fit in
    let z : get_or T.states n 0 ≡ 0 = eqb-true (get_or T.states n 0) 0 ((and_parts (eqb (get_or T.states n 0) 0) (eqb (get_or T.starts n 0) 0) (rw (le-ltb n n (omega arith)) at (old n))).0) in
    record {
      begun = λ (q : ◌≡◌ {A = ℕ} 2 0). absurd (omega arith);
      counted = λ (q : ◌≡◌ {A = ℕ} 2 0 → ⊥). r.counted begun;
      tasks = r.tasks;
      gates = r.gates;
      came = omega arith;
      sized = record {
        states = length-set T.states n states ∙ r.sized.states;
        starts = length-set T.starts n start ∙ r.sized.starts;
        moves = r.sized.moves;
        vectors = r.sized.vectors;
        masks = r.sized.masks;
      };
      tasks_fit = one_more_task T n states start r.sized room old c;
      moves_fit = moves_of_others T n states start r.sized room r.moves_fit z;
      counts_fit = r.counts_fit;
      masks_fit = r.masks_fit;
      floor = r.floor;
      gate = r.gate;
      size = omega (arith, r.size, system_le p.kind);
    }
