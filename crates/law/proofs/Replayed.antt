-- A task's state in the replay is its stored one, or one move ahead where a COMMIT travels to it.
use Rattle.std.specs.Prelude.{Option, Some, None}
use Prim.Native.Nat.{ℕ, ◌<◌}
use mathlib.Core.Bool.{true}
use mathlib.Core.List.{List, [], ◌∷◌}
use mathlib.Core.Path.{◌≡◌, refl, sym, ap, ◌∙◌, subst}
use lib.Dec.{ltb}
use borrow.Author.Tests.{ltb-true}
use Rattle.std.proofs.lemmas.Bool.{and_parts}
use Rattle.table.specs.Tables.{move_of, is_move}
use Rattle.table.specs.declared.Table.{Table}
use Rattle.channels.specs.declared.Message.{Message}
use Rattle.channels.specs.declared.Message.TheVariants.{Commit}
use Rattle.channels.specs.declared.Channel1.{Channel1}
use Rattle.state.specs.States.{task_of, across_of}
use Rattle.state.specs.declared.State.{State}
use Rattle.kept.proofs.Rules.{across_fit}
use Rattle.kept.proofs.States.{StateRules}
use Rattle.machine.specs.Machine.{moved}
use Rattle.protocol.specs.Lines.{result}
use Rattle.protocol.proofs.AtTask.{result_at_task}
use Rattle.protocol.proofs.Behind.{one_behind, not_behind}
use Rattle.protocol.proofs.Cases.{clash}
use Rattle.protocol.proofs.Fronts.{phase_decided}
use Rattle.protocol.proofs.Invariant.{Invariant}
use Rattle.protocol.proofs.Phases.{decided}
use Rattle.line.specs.Contents.{messages1}
use Rattle.line.specs.Law.{Travels}
use Rattle.link.proofs.Channels.{empty_messages1, pop_messages1}
use Rattle.link.proofs.Tables.{plan_of, Lawful}
use Rattle.link.proofs.View.{line_of}
use Rattle.law.proofs.There.{across_there}

-- a channel that holds a COMMIT alone
commit_travels : (c : Channel1) (g : ℕ) → messages1 c ≡ result true g ∷ []
    → (c.count ≡ 0 → ⊥) × (c.first ≡ Commit (record { 0 = g }))
commit_travels c g e = (some, (let z : c.first ∷ [] ≡ result true g ∷ [] = sym (pop_messages1 c some) ∙ e in cc))
  where
    some : c.count ≡ 0 → ⊥
    some n = clash (let z : [] ≡ result true g ∷ [] = sym (empty_messages1 c n) ∙ e in cc)

leads_to : (x : ℕ) (m : Option ℕ) → is_move m ≡ true → m ≡ Some (moved x m)
leads_to x None e = clash (sym e)
leads_to x (Some y) e = refl

module _ (T : Table) (q : Lawful T) (s : State) (log : List ℕ) (R : StateRules T s) (i : Invariant (plan_of T) (line_of s log)) (t : ℕ) where
  pub exact_state : ((a g : ℕ) → Travels s a t (Commit (record { 0 = g })) → ⊥) → i.ghost.replayed t ≡ (task_of s t).state
  exact_state none = not_behind (plan_of T) (line_of s log) i t (λ u g l e. none u g (commit_travels (across_of (task_of s u) t) g e))

  -- a COMMIT that travels to t comes from a higher task
  commit_from : (a g : ℕ) → Travels s a t (Commit (record { 0 = g })) → (t < a) × ((line_of s log).across a t ≡ result true g ∷ [])
  commit_from a g c =
      let fit = subst (λ (m : Message). across_fit T a t m ≡ true) c.1 (across_there T s R a t c.0).1.1 in (
        ltb-true t a ((and_parts (ltb t a) (ltb g T.gates) fit).0),
        pop_messages1 (across_of (task_of s a) t) c.0 ∙ ap (λ (m : Message). m ∷ []) c.1,
      )

  pub behind_state : (a g : ℕ) → Travels s a t (Commit (record { 0 = g }))
      → move_of T.moves t (task_of s t).state g ≡ Some (i.ghost.replayed t)
  behind_state a g c =
      let f = commit_from a g c in
      let ready = (result_at_task (plan_of T) q.right (line_of s log) i a t g true [] f.0 f.1).0.2 in
      leads_to (task_of s t).state (move_of T.moves t (task_of s t).state g) ready
      ∙ ap Some (sym (one_behind (plan_of T) (line_of s log) i t a g [] f.0 f.1))

  pub one_commit_lem : (a b g h : ℕ) → Travels s a t (Commit (record { 0 = g })) → Travels s b t (Commit (record { 0 = h }))
      → (a ≡ b) × (g ≡ h)
  one_commit_lem a b g h c d =
      let e = commit_from a g c in
      let f = commit_from b h d in
      let x = phase_decided (plan_of T) (line_of s log) i.ghost i.links a t g true [] e.0 e.1 in
      let y = phase_decided (plan_of T) (line_of s log) i.ghost i.links b t h true [] f.0 f.1 in
      let z : decided g x.0 a true ≡ decided h y.0 b true = sym x.1 ∙ y.1 in
      (cc, cc)
