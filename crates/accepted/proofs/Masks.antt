-- A vector record keeps what holds.
use Prim.Native.Nat.{ℕ, ◌+◌, ◌*◌, ◌<◌, ◌≤◌}
use mathlib.Core.Bool.{Bool, true, false, cond, ◌&&◌, not}
use mathlib.Core.List.{List}
use mathlib.Core.Logic.{⊎_elim}
use mathlib.Core.Path.{◌≡◌, refl, sym, ap, ◌∙◌}
use native.Mathlib.Nat.{eq-or-lt_of_le, le_refl}
use native.Mathlib.Omega.{arith}
use lib.Dec.{eqb, ltb, leb}
use lib.ListN.{get_or, set, length, length-set}
use lib.Seq.{get_or-set_same}
use borrow.Author.Tests.{ltb-true, leb-true, leb-false, lt-ltb}
use Rattle.laws.proofs.Numbers.{below_at, below_of, below_same}
use Rattle.std.proofs.lemmas.List.{get_or-set_other}
use Rattle.std.proofs.lemmas.Bool.{cases_eq, and_parts}
use Rattle.laws.proofs.Tests.{ltb_other}
use Rattle.numbers.specs.declared.GateNo.{GateNo}
use Rattle.records.specs.declared.Record.TheVariants.{Vector}
use Rattle.sets.specs.Sets.{all_below_of}
use Rattle.table.specs.Tables.{mask_of, new_below, with_masks}
use Rattle.table.specs.declared.Table.{Table}
use Rattle.soundness.specs.Sound.{vector_fits}
use Rattle.soundness.proofs.Rules.{count_le}
use Rattle.reader.specs.Parts.{loading}
use Rattle.reader.specs.Rules.{in_range, is_ninth, in_order, with_record, after_record}
use Rattle.reader.specs.declared.Progress.{Progress}
use Rattle.accepted.proofs.Passed.{Fields}
use Rattle.accepted.proofs.Reached.{Reached, CountsFit, MasksFit, system_le}

module _ (masks : List ℕ) (a n m : ℕ) (n8 : n < 8) where
  abbrev stored : List ℕ
  stored = set masks (a * 8 + n) m

  other_mask : (g v : ℕ) → v < 8 → (g ≡ a → v ≡ n → ⊥) → mask_of stored g v ≡ mask_of masks g v
  other_mask g v v8 ne =
      rw (lt-ltb v 8 v8) (get_or-set_other masks (a * 8 + n) (g * 8 + v) m 0 (λ (e : g * 8 + v ≡ a * 8 + n). ne (omega arith) (omega arith)))

  new_mask : length masks ≡ 128 → a < 16 → mask_of stored a n ≡ m
  new_mask l h = rw (lt-ltb n 8 n8) (get_or-set_same masks (a * 8 + n) m 0 (omega arith))

  -- a mask that is new below w stays so where w lies at or before the store, or at another gate
  new_below_lem : (g w k : ℕ) → w ≤ 8 → (g ≡ a → w ≤ n) → new_below stored g w k ≡ new_below masks g w k
  unfolding new_below
  new_below_lem g w k w8 h =
      below_same w _ _ (λ (v : ℕ) (l : v < w). ap (λ (x : ℕ). not (eqb x k)) (other_mask g v (omega arith) (λ (e : g ≡ a) (f : v ≡ n). omega (arith, h e))))

  -- a vector other than the new one fits as before, whichever side of the count it is
  old_vector : (g v count more tasks : ℕ) → v < 8 → (g ≡ a → v ≡ n → ⊥) → (g ≡ a → v < more → v < n) → ltb v count ≡ ltb v more
      → vector_fits masks g count tasks v ≡ true → vector_fits stored g more tasks v ≡ true
  old_vector g v count more tasks v8 ne lo same h =
      rw (← same, other_mask g v v8 ne) (turn (ltb v count) refl h)
    where
      x : ℕ
      x = mask_of masks g v

      turn : (t : Bool) → ltb v count ≡ t
          → cond t (not (eqb x 0) && (all_below_of x tasks && new_below masks g v x)) (eqb x 0) ≡ true
          → cond t (not (eqb x 0) && (all_below_of x tasks && new_below stored g v x)) (eqb x 0) ≡ true
      turn true e h = rw (new_below_lem g v x (omega arith) (λ (q : g ≡ a). omega (arith, lo q (ltb-true v more (sym same ∙ e))))) h
      turn false e h = h

  new_earlier : new_below masks a 8 m ≡ true → new_below masks a n m ≡ true
  unfolding new_below
  new_earlier h = below_of n _ (λ (v : ℕ) (l : v < n). below_at 8 (λ (v : ℕ). not (eqb (mask_of masks a v) m)) h v (omega arith))

  new_vector : (tasks : ℕ) → length masks ≡ 128 → a < 16 → not (eqb m 0) ≡ true → all_below_of m tasks ≡ true → new_below masks a 8 m ≡ true
      → vector_fits stored a (n + 1) tasks n ≡ true
  new_vector tasks l h mz mt mn =
      rw (lt-ltb n (n + 1) (omega arith), new_mask l h, mz, mt, new_below_lem a n m (omega arith) (λ (e : a ≡ a). le_refl n)) (new_earlier mn)

module _ (T : Table) (a m : ℕ) (lv : length T.vectors ≡ 16) (lm : length T.masks ≡ 128) (a16 : a < 16) (n8 : get_or T.vectors a 0 < 8) where
  abbrev n : ℕ
  n = get_or T.vectors a 0

  one_more_count : a < T.gates → CountsFit T → (g : ℕ) → get_or (set T.vectors a (n + 1)) g 0 ≤ cond (ltb g T.gates) 8 0
  one_more_count h f g = ⊎_elim
      (λ (e : g ≡ a). rw (e, get_or-set_same T.vectors a (n + 1) 0 (omega arith), lt-ltb a T.gates h) (omega arith))
      (λ (e : g ≡ a → ⊥). rw (get_or-set_other T.vectors a g (n + 1) 0 e) (f g))
      (cases_eq g a)

  one_more_mask : MasksFit T → not (eqb m 0) ≡ true → all_below_of m T.tasks ≡ true → new_below T.masks a 8 m ≡ true
      → MasksFit (with_masks T (set T.vectors a (n + 1)) (set T.masks (a * 8 + n) m))
  one_more_mask f mz mt mn g v v8 = ⊎_elim
      (λ (e : g ≡ a). rw (e, get_or-set_same T.vectors a (n + 1) 0 (omega arith)) (⊎_elim
      (λ (q : v ≡ n). rw q (new_vector T.masks a n m n8 T.tasks lm a16 mz mt mn))
      (λ (q : v ≡ n → ⊥). old_vector T.masks a n m n8 a v n (n + 1) T.tasks v8 (λ (_ : a ≡ a). q) (λ (_ : a ≡ a) (l : v < n + 1). below v n q l) (sym (ltb_other v n q)) (f a v v8))
      (cases_eq v n)))
      (λ (e : g ≡ a → ⊥). rw (get_or-set_other T.vectors a g (n + 1) 0 e)
      (old_vector T.masks a n m n8 g v (get_or T.vectors g 0) (get_or T.vectors g 0) T.tasks v8 (λ (q : g ≡ a) (_ : v ≡ n). e q) (λ (q : g ≡ a) (_ : v < get_or T.vectors g 0). absurd (e q)) refl (f g v v8)))
      (cases_eq g a)
    where
      below : (v n : ℕ) → (v ≡ n → ⊥) → v < n + 1 → v < n
      below v n q l = omega arith

pub vector_reached : (at : ℕ) (T : Table) (p : Progress) (g : GateNo) (m : ℕ) → Reached at T p → Fields (loading T p) (Vector g m)
    → Reached (at + 7) (with_record T (Vector g m)) (after_record p (Vector g m))
unfolding in_range is_ninth in_order with_record after_record
vector_reached at T p g m r f =
    let a : ℕ = g.0 in
    let n : ℕ = get_or T.vectors a 0 in
    let A : Bool = ltb a T.gates in
    let B : Bool = not (eqb m 0) in
    let C : Bool = all_below_of m T.tasks in
    let D : Bool = leb p.gate.0 a in
    let E : Bool = new_below T.masks a 8 m in
    let s : (B && C) ≡ true = (and_parts A (B && C) f.range).1 in
    let x : a < T.gates = ltb-true a T.gates ((and_parts A (B && C) f.range).0) in
    let y : n < 8 = leb-false 8 n f.few in
    let z : p.gate.0 ≤ a = leb-true p.gate.0 a ((and_parts D E f.order).0) in
    let a16 : a < 16 = omega (arith, r.gates) in
    let used : 8 * p.gate.0 + get_or T.vectors p.gate.0 0 ≤ 8 * a + n = so_far (get_or T.vectors) r.counts_fit p.gate.0 a z in
    let begun : p.kind ≡ 0 → ⊥ = λ (q : p.kind ≡ 0). omega (arith, x, ap (λ (U : Table). U.gates) (r.begun q).0) in
    rw (lt-ltb n 8 y)
    (record {
      begun = λ (q : ◌≡◌ {A = ℕ} 4 0). absurd (omega arith);
      counted = λ (q : ◌≡◌ {A = ℕ} 4 0 → ⊥). r.counted begun;
      tasks = r.tasks;
      gates = r.gates;
      came = r.came;
      sized = record {
        states = r.sized.states;
        starts = r.sized.starts;
        moves = r.sized.moves;
        vectors = length-set T.vectors a (n + 1) ∙ r.sized.vectors;
        masks = length-set T.masks (a * 8 + n) m ∙ r.sized.masks;
      };
      tasks_fit = r.tasks_fit;
      moves_fit = r.moves_fit;
      counts_fit = one_more_count T a m r.sized.vectors r.sized.masks a16 y x r.counts_fit;
      masks_fit = one_more_mask T a m r.sized.vectors r.sized.masks a16 y r.masks_fit ((and_parts B C s).0) ((and_parts B C s).1) ((and_parts D E f.order).1);
      floor = r.floor;
      gate = a16;
      size = rw (get_or-set_same T.vectors a (n + 1) 0 (omega (arith, r.sized.vectors))) (omega (arith, r.size, system_le p.kind));
    })
  where
    so_far : (count : ℕ → ℕ → ℕ) → ((i : ℕ) → count i 0 ≤ cond (ltb i T.gates) 8 0) → (i k : ℕ) → i ≤ k → 8 * i + count i 0 ≤ 8 * k + count k 0
    so_far count h i k l = ⊎_elim
        (λ (e : i ≡ k). rw e (le_refl _))
        (λ (e : i < k). omega (arith, count_le (ltb i T.gates) (count i 0) (h i)))
        (eq-or-lt_of_le l)
