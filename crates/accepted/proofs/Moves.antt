-- A transition record keeps what holds.
use Prim.Native.Nat.{ℕ, ◌+◌, ◌<◌, ◌≤◌}
use mathlib.Core.Bool.{Bool, true, ◌&&◌}
use mathlib.Core.Path.{◌≡◌, ap, ◌∙◌}
use native.Mathlib.Omega.{arith}
use lib.Dec.{ltb}
use lib.ListN.{get_or, set, length-set}
use borrow.Author.Tests.{ltb-true, leb-true, lt-ltb}
use Rattle.laws.proofs.Stores.{set_at}
use Rattle.std.proofs.lemmas.Bool.{and_parts}
use Rattle.numbers.specs.declared.TaskNo.{TaskNo}
use Rattle.numbers.specs.declared.GateNo.{GateNo}
use Rattle.records.specs.declared.Record.TheVariants.{Transition}
use Rattle.table.specs.Tables.{cell_of, with_moves}
use Rattle.table.specs.declared.Table.{Table}
use Rattle.soundness.specs.Sound.{most_at}
use Rattle.soundness.proofs.Rules.{states_le}
use Rattle.reader.specs.Parts.{loading}
use Rattle.reader.specs.Rules.{in_range, in_order, with_record, after_record}
use Rattle.reader.specs.declared.Progress.{Progress}
use Rattle.accepted.proofs.Passed.{Fields}
use Rattle.accepted.proofs.Reached.{Reached, MovesFit, system_le}

-- one more transition, from a present state at a present gate to a present state
one_more_move : (T : Table) (t x g y : ℕ) → MovesFit T → x < 16 → g < 16
    → x < get_or T.states t 0 → g < T.gates → y < get_or T.states t 0
    → MovesFit (with_moves T (set T.moves (cell_of t x g) (y + 1)))
one_more_move T t x g y f hx hg px pg py u v h kv kh =
    set_at T.moves (cell_of t x g) (cell_of u v h) (y + 1) (λ (n : ℕ). n ≤ most_at T u v h)
    (λ (e : cell_of u v h ≡ cell_of t x g).
    let a : u ≡ t = omega arith in
    let b : v ≡ x = omega arith in
    let c : h ≡ g = omega arith in
    rw (a, b, c, lt-ltb x (get_or T.states t 0) px, lt-ltb g T.gates pg) (omega arith))
    (f u v h kv kh)

pub transition_reached : (at : ℕ) (T : Table) (p : Progress) (t : TaskNo) (x : ℕ) (g : GateNo) (y : ℕ) → Reached at T p → Fields (loading T p) (Transition t x g y)
    → Reached (at + 8) (with_record T (Transition t x g y)) (after_record p (Transition t x g y))
unfolding in_range in_order with_record after_record
transition_reached at T p t x g y r f =
    let n : ℕ = get_or T.states t.0 0 in
    let A : Bool = ltb t.0 T.tasks in
    let B : Bool = ltb x n in
    let C : Bool = ltb g.0 T.gates in
    let D : Bool = ltb y n in
    let q : (B && (C && D)) ≡ true = (and_parts A (B && (C && D)) f.range).1 in
    let s : (C && D) ≡ true = (and_parts B (C && D) q).1 in
    let a : t.0 < T.tasks = ltb-true t.0 T.tasks ((and_parts A (B && (C && D)) f.range).0) in
    let b : x < n = ltb-true x n ((and_parts B (C && D) q).0) in
    let c : g.0 < T.gates = ltb-true g.0 T.gates ((and_parts C D s).0) in
    let d : y < n = ltb-true y n ((and_parts C D s).1) in
    let m : n ≤ 16 = states_le (ltb t.0 p.came) n (get_or T.starts t.0 0) (r.tasks_fit t.0) in
    let hx : x < 16 = omega arith in
    let hg : g.0 < 16 = omega (arith, r.gates) in
    let o : p.floor ≤ cell_of t.0 x g.0 = leb-true p.floor (cell_of t.0 x g.0) f.order in
    let begun : p.kind ≡ 0 → ⊥ = λ (z : p.kind ≡ 0). omega (arith, a, ap (λ (U : Table). U.tasks) (r.begun z).0) in
    rw (lt-ltb t.0 16 (omega (arith, r.tasks)), lt-ltb x 16 hx, lt-ltb g.0 16 hg, lt-ltb y 16 (omega arith))
    (record {
      begun = λ (z : ◌≡◌ {A = ℕ} 3 0). absurd (omega arith);
      counted = λ (z : ◌≡◌ {A = ℕ} 3 0 → ⊥). r.counted begun;
      tasks = r.tasks;
      gates = r.gates;
      came = r.came;
      sized = record {
        states = r.sized.states;
        starts = r.sized.starts;
        moves = length-set T.moves (cell_of t.0 x g.0) (y + 1) ∙ r.sized.moves;
        vectors = r.sized.vectors;
        masks = r.sized.masks;
      };
      tasks_fit = r.tasks_fit;
      moves_fit = one_more_move T t.0 x g.0 y r.moves_fit hx hg b c d;
      counts_fit = r.counts_fit;
      masks_fit = r.masks_fit;
      floor = omega (arith, r.tasks);
      gate = r.gate;
      size = omega (arith, r.size, system_le p.kind);
    })
