-- A channel that holds a message lies between parties that are present, and the message is one that its pair sends.
use Prim.Native.Nat.{ℕ, ◌<◌, ◌≤◌}
use mathlib.Core.Bool.{Bool, ◌&&◌, false, true}
use mathlib.Core.List.{List}
use mathlib.Core.Logic.{◌≢◌, ⊎_elim}
use mathlib.Core.Path.{◌≡◌, ◌∙◌, ap, refl}
use native.Mathlib.Omega.{arith}
use lib.Dec.{leb, ltb}
use lib.ListN.{get_or-eq_default, get_or, length}
use borrow.Author.Tests.{leb-true, ltb-true}
use Rattle.std.proofs.lemmas.Bool.{and_parts}
use Rattle.laws.proofs.Tests.{le_or_lt}
use Rattle.table.specs.declared.Table.{Table}
use Rattle.channels.specs.Channels.{empty1, empty3}
use Rattle.state.specs.States.{across_of, down_of, gate_of, no_gate, no_task, task_of, up_of}
use Rattle.state.specs.declared.State.{State}
use Rattle.sound_state.specs.Parts.{room}
use Rattle.kept.proofs.Channels.{one_fits}
use Rattle.kept.proofs.Rules.{across_fit}
use Rattle.kept.proofs.States.{StateRules}

-- a count within room that is not 0 has room
present_by : (a b : Bool) (count n : ℕ) (rest : Bool) → (leb count (room (a && b) n) && rest) ≡ true → count ≢ 0
    → (a ≡ true) × (b ≡ true)
present_by true true count n rest h k = (refl, refl)
present_by true false count n rest h k = absurd (k (let l = leb-true count 0 ((and_parts (leb count 0) rest h).0) in omega arith))
present_by false b count n rest h k = absurd (k (let l = leb-true count 0 ((and_parts (leb count 0) rest h).0) in omega arith))

-- what is not empty is one of the 16
inside : {A : Type 0} (l : List A) (d : A) (f : A → ℕ) → f d ≡ 0 → length l ≡ 16 → (i : ℕ) → f (get_or l i d) ≢ 0 → i < 16
inside l d f z e i h = ⊎_elim
    (λ (k : 16 ≤ i). absurd (h (ap f (get_or-eq_default l d {n = i} (omega arith)) ∙ z)))
    (λ (k : i < 16). k)
    (le_or_lt 16 i)

module _ (T : Table) (s : State) (R : StateRules T s) where
  pub up_there : (t g : ℕ) → (up_of (task_of s t) g).count ≢ 0 → (t < T.tasks) × (g < T.gates)
  up_there t g n =
      let t16 = inside s.tasks no_task (λ p. (up_of p g).count) refl R.tasks t n in
      let g16 = inside (task_of s t).up empty3 (λ c. c.count) refl (R.task t t16).kept.sized.up g n in
      let k = (R.task t t16).kept.up g g16 in
      let p = present_by (ltb t T.tasks) (ltb g T.gates) (up_of (task_of s t) g).count 3 _ k n in
      (ltb-true t T.tasks p.0, ltb-true g T.gates p.1)

  pub down_there : (g b : ℕ) → (down_of (gate_of s g) b).count ≢ 0 → (g < T.gates) × (b < T.tasks)
  down_there g b n =
      let g16 = inside s.gates no_gate (λ k. (down_of k b).count) refl R.gates g n in
      let b16 = inside (gate_of s g).down empty1 (λ c. c.count) refl (R.gate g g16).sized.down b n in
      let k = (R.gate g g16).down b b16 in
      let p = present_by (ltb g T.gates) (ltb b T.tasks) (down_of (gate_of s g) b).count 1 _ k n in
      (ltb-true g T.gates p.0, ltb-true b T.tasks p.1)

  pub across_there : (a b : ℕ) → (across_of (task_of s a) b).count ≢ 0
      → (a < T.tasks) × ((b < T.tasks) × (across_fit T a b (across_of (task_of s a) b).first ≡ true))
  across_there a b n =
      let a16 = inside s.tasks no_task (λ p. (across_of p b).count) refl R.tasks a n in
      let b16 = inside (task_of s a).across empty1 (λ c. c.count) refl (R.task a a16).kept.sized.across b n in
      let k = (R.task a a16).kept.across b b16 in
      let p = present_by (ltb a T.tasks) (ltb b T.tasks) (across_of (task_of s a) b).count 1 _ k n in (
        ltb-true a T.tasks p.0,
        (
          ltb-true b T.tasks p.1,
          one_fits (across_fit T a b) (ltb a T.tasks && ltb b T.tasks) (across_of (task_of s a) b) k n,
        ),
      )
