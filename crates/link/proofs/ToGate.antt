-- A message from a task at a gate.
use Prim.Native.Nat.{ℕ, ◌<◌, ◌≤◌}
use mathlib.Core.Bool.{Bool, ◌&&◌, cond, false, true}
use mathlib.Core.List.{List, [], ◌∷◌}
use mathlib.Core.Path.{◌≡◌, ◌∙◌, ap, refl, subst, sym}
use native.Mathlib.Omega.{arith}
use lib.Dec.{leb, ltb}
use lib.ListN.{get_or, length}
use borrow.Author.Tests.{eqb-true, leb-true, lt-ltb, ne_eqb}
use Rattle.std.proofs.lemmas.Bool.{and_parts}
use Rattle.sets.specs.Sets.{member_of, with_of}
use Rattle.table.specs.Tables.{mask_of}
use Rattle.table.specs.declared.Table.{Table}
use Rattle.channels.specs.Channels.{is_ready, popped3}
use Rattle.channels.specs.declared.Channel3.{Channel3}
use Rattle.channels.specs.declared.Message.{Message}
use Rattle.channels.specs.declared.Message.TheVariants.{Abort, Commit, Lock, Ready}
use Rattle.state.specs.States.{gate_of, pop_of, task_of, up_of}
use Rattle.state.specs.declared.Deal.{Deal}
use Rattle.state.specs.declared.Deal.TheVariants.{Dealing, Idle}
use Rattle.state.specs.declared.Gate.{Gate}
use Rattle.state.specs.declared.Link.TheVariants.{ToGate}
use Rattle.state.specs.declared.State.{State}
use Rattle.sound_state.specs.SoundState.{up_fits, up_sound}
use Rattle.sound_state.specs.Parts.{room}
use Rattle.gates.specs.Gates.{at_gate, ended, offering, searched}
use Rattle.gates.specs.declared.Work.{Work}
use Rattle.delivery.specs.Delivery.{settled_at_gate, delivered_at_gate, with_log}
use Rattle.kept.proofs.Ends.{up_popped}
use Rattle.kept.proofs.States.{StateRules}
use Rattle.protocol.specs.Lines.{Line, result}
use Rattle.protocol.specs.Plans.{changed}
use Rattle.protocol.specs.Steps.{ready_taken, result_taken}
use Rattle.protocol.proofs.AtGate.{gate_dealing, ready_at_gate, result_at_gate}
use Rattle.protocol.proofs.Cases.{clash}
use Rattle.protocol.proofs.Ended.{token_returned}
use Rattle.protocol.proofs.Invariant.{Invariant}
use Rattle.protocol.proofs.Reading.{home_of}
use Rattle.line.specs.Contents.{messages3}
use Rattle.link.proofs.AtGate.{offers_after, ready_line, result_line, searched_at, up_taken}
use Rattle.link.proofs.Channels.{pop_messages3}
use Rattle.link.proofs.Made.{Made, made_at_gate}
use Rattle.link.proofs.Tables.{Lawful, plan_of}
use Rattle.link.proofs.View.{down_list, line_of, line_with, newest_first}
use Rattle.protocol.specs.Deliveries as protocol

-- what a sound channel to gate g says of its messages
up_says : (present : Bool) (g : ℕ) (c : Channel3) → up_sound present g c ≡ true → (c.count ≡ 0 → ⊥)
    → (c.count ≤ 3) × (up_fits g c.first ≡ true)
up_says present g c h n =
    let first : cond (ltb 0 c.count) (up_fits g c.first) (is_ready c.first) ≡ true =
    (and_parts _ _ ((and_parts (leb c.count (room present 3)) _ h).1)).0 in (
      most present (leb-true c.count (room present 3) ((and_parts (leb c.count (room present 3)) _ h).0)),
      rw (lt-ltb 0 c.count (omega arith)) at first,
    )
  where
    most : (b : Bool) → c.count ≤ room b 3 → c.count ≤ 3
    most true l = l
    most false l = omega arith

module _ (T : Table) (q : Lawful T) (s : State) (log : List ℕ) (R : StateRules T s) (i : Invariant (plan_of T) (line_of s log))
    (t g : ℕ) (ht : t < T.tasks) (hg : g < T.gates) where
  abbrev c : Channel3
  c = up_of (task_of s t) g

  abbrev k : Gate
  k = gate_of s g

  abbrev X : Line
  X = line_of s log

  abbrev rest : List Message
  rest = messages3 (popped3 c)

  t16 : t < 16
  t16 = omega (arith, q.rules.tasks)

  g16 : g < 16
  g16 = omega (arith, q.rules.gates)

  g_up : g < length (task_of s t).up
  g_up = let z = (R.task t t16).kept.sized.up in let y = g16 in omega arith

  -- the gate that searches is k₁, and the protocol's line then is x
  made : (k₁ : Gate) (x : Line) → k₁.down ≡ k.down → (k₁.deal ≡ Idle → (b : ℕ) → down_list k₁ b ≡ [])
      → line_with (changed (task_of s) t (up_taken (task_of s t) g)) (changed (gate_of s) g k₁) (newest_first s.logged log) ≡ x
      → Invariant (plan_of T) (protocol.searched (plan_of T) x g)
      → Made T s log (with_log log (settled_at_gate s (up_popped s t g) g (searched T.masks (get_or T.vectors g 0) g k₁)))
  made k₁ x down silent e n =
      let r = searched_at T q (changed (task_of s) t (up_taken (task_of s t) g)) (gate_of s) (newest_first s.logged log) g k₁
      (record { down = ap length down ∙ (R.gate g g16).sized.down }) silent in
      made_at_gate T s log t g (up_taken (task_of s t) g) (searched T.masks (get_or T.vectors g 0) g k₁)
      (protocol.searched (plan_of T) x g)
      (let y = t16 in omega (arith, R.tasks)) (let y = g16 in omega (arith, R.gates))
      (record { good = r.good; is = r.is ∙ ap (λ (y : Line). protocol.searched (plan_of T) y g) e }) n

  -- a result ends the negotiation of a gate that deals so
  abbrev ended_by : Bool → Deal → Work
  ended_by c deal = ended T.masks (get_or T.vectors g 0) g t (offers_after c t) k deal

  by_result : (c : Bool) → X.up t g ≡ result c g ∷ rest
      → Made T s log (with_log log (settled_at_gate s (up_popped s t g) g (ended_by c k.deal)))
  by_result b e =
      let d = gate_dealing (plan_of T) q.right X i t g b rest e in
      turn d.0 d.1 d.2
    where
      turn : (v : ℕ) → k.deal ≡ Dealing v → member_of (mask_of T.masks g v) t ≡ true
          → Made T s log (with_log log (settled_at_gate s (up_popped s t g) g (ended_by b k.deal)))
      turn v ev m =
          let returned_is = token_returned (plan_of T) X i.ghost i.links t g v b rest e ev in
          subst (λ (x : Deal). Made T s log (with_log log (settled_at_gate s (up_popped s t g) g (ended_by b x)))) (sym ev)
          (rw m (made (offering k (offers_after b t k.offers (mask_of T.masks g v)) Idle) (result_taken (plan_of T) X t g v b rest) refl
          (λ _ x. (i.links.pair x g).down_is ∙ rw returned_is)
          (result_line (task_of s) (gate_of s) (newest_first s.logged log) t g t16 g_up T v b)
          (result_at_gate (plan_of T) q.right X i t g v b rest e ev)))

  by_message : (m : Message) → up_fits g m ≡ true → X.up t g ≡ m ∷ rest
      → Made T s log (with_log log (settled_at_gate s (up_popped s t g) g (at_gate T.masks (get_or T.vectors g 0) g t k m)))
  unfolding at_gate
  by_message Ready f e = made (offering k (with_of k.offers t) k.deal) (ready_taken X t g rest) refl
      (λ p b. (i.links.pair b g).down_is ∙ rw (home_of (i.ghost.token g) (sym (i.links.gate g).deal_is ∙ p)))
      (ready_line (task_of s) (gate_of s) (newest_first s.logged log) t g t16 g_up)
      (ready_at_gate (plan_of T) q.right X i t g rest e)
  by_message (Lock r) f e = clash (sym f)
  by_message (Commit h) f e = by_result true (e ∙ ap (λ (n : ℕ). result true n ∷ rest) (eqb-true h.0 g f))
  by_message (Abort h) f e = by_result false (e ∙ ap (λ (n : ℕ). result false n ∷ rest) (eqb-true h.0 g f))

  pub made_to_gate : (c.count ≡ 0 → ⊥) → Made T s log (with_log log (delivered_at_gate T.vectors T.masks s t g (pop_of s (ToGate (record { 0 = t }) (record { 0 = g })))))
  unfolding delivered_at_gate
  made_to_gate n =
      let u = up_says (ltb t T.tasks && ltb g T.gates) g c ((R.task t t16).kept.up g g16) n in
      rw (ne_eqb c.count 0 n) (by_message c.first u.1 (pop_messages3 c u.0 n))
