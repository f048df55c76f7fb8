-- Where no message travels, no task is held and no vector has all its tasks ready.
use Rattle.std.specs.Prelude.{Option, None, Some}
use Prim.Native.Nat.{ℕ, suc, zero, ◌+◌, ◌<◌, ◌≤◌}
use mathlib.Core.Bool.{Bool, true, false, cond}
use mathlib.Core.List.{[], ◌∷◌}
use mathlib.Core.Path.{◌≡◌, refl, sym, ◌∙◌}
use native.Mathlib.Omega.{arith}
use borrow.Author.Tests.{ltb-true}
use Rattle.std.proofs.lemmas.Bool.{and_parts}
use Rattle.state.specs.declared.Mode.TheVariants.{Free}
use Rattle.protocol.specs.Plans.{Plan, below}
use Rattle.protocol.specs.Lines.{Line, lock, result}
use Rattle.protocol.proofs.Cases.{eqb_same, clash}
use Rattle.protocol.proofs.Tokens.{Token, home, sent, passed, queued, in_hand, returned, result_by, up_messages, undecided_by}
use Rattle.protocol.proofs.Phases.{Phase, idle, undecided, decided}
use Rattle.protocol.proofs.Invariant.{Ghost, PlanRight, Covered, by_ready, by_offer, by_token, by_commit, Invariant}
use Rattle.protocol.proofs.Taken.{passer, passed_up}

pub record Quiet (s : Line) : Type 0 where
  pub no_up : (t g : ℕ) → s.up t g ≡ []
  pub no_down : (g t : ℕ) → s.down g t ≡ []
  pub no_across : (a b : ℕ) → s.across a b ≡ []

result_there : (g : ℕ) (k before last : Bool) → [] ≡ up_messages g (Some k) before last → ⊥
result_there g k true last e = clash (cc)
result_there g k false last e = clash (cc)

ready_there : (g : ℕ) (r : Option Bool) (before : Bool) → [] ≡ up_messages g r before true → ⊥
ready_there g None before e = clash (cc)
ready_there g (Some k) before e = result_there g k before true e

module _ (P : Plan) (W : PlanRight P) (s : Line) (i : Invariant P s) (q : Quiet s) where
  abbrev h : Ghost
  h = i.ghost

  no_passed : (g w a b : ℕ) → h.token g ≡ passed w a b → ⊥
  no_passed g w a b e =
      let p = passer P s h i.links g w a b e in
      clash (let z : [] ≡ lock g p.0 ∷ [] = sym (q.no_across a b) ∙ i.links.higher a b (passed_up P s h i.links g w a b e) ∙ simp (p.1, p.2, eqb_same) in cc)

  no_queued : (g w b : ℕ) → h.token g ≡ queued w b → h.phase b ≡ idle → ⊥
  no_queued g w b e f = clash (let z : [] ≡ w ∷ [] = simp (i.none_waits_lem b f, e, eqb_same) at (i.links.pair b g).waiting_is in cc)

  -- who is held with no decision is below a request that waits, at a task that is held too
  none_undecided : (g : ℕ) (x : Token) → h.token g ≡ x → (t v : ℕ) → ((b : ℕ) → t < b → b < P.tasks → h.phase b ≡ idle)
      → undecided_by P g t x ≡ Some v → ⊥
  none_undecided g home e t v f u = clash (cc)
  none_undecided g (sent w b) e t v f u = clash (cc)
  none_undecided g (passed w a b) e t v f u = no_passed g w a b e
  none_undecided g (queued w b) e t v f u = go (below P g w b t) refl u
    where
      go : (c : Bool) → below P g w b t ≡ c → cond c (Some w) None ≡ Some v → ⊥
      go false d x = clash (cc)
      go true d x = no_queued g w b e (f b (ltb-true t b ((and_parts (P.holds g w t) _ d).1)) (W.task_there g w b (rw e at (i.links.gate g).token_right)))
  none_undecided g (in_hand w b) e t v f u = i.none_in_hand g w b e
  none_undecided g (returned w c k) e t v f u = clash (cc)

  idle_below : (t : ℕ) → ((b : ℕ) → t < b → b < P.tasks → h.phase b ≡ idle) → (p : Phase) → h.phase t ≡ p → p ≡ idle
  idle_below t f idle e = refl
  idle_below t f (undecided g v) e = absurd (none_undecided g (h.token g) refl t v f (sym (i.links.pair t g).undecided_is ∙ simp (e, eqb_same)))
  idle_below t f (decided g v u k) e =
      clash (let z : [] ≡ result k g ∷ [] = sym (q.no_across u t) ∙ i.links.lower u t (rw e at (i.links.task t).phase_right).2 ∙ simp (e, eqb_same) in cc)

  -- from the highest task downwards
  idle_from : (n t : ℕ) → P.tasks ≤ t + n → h.phase t ≡ idle
  idle_from zero t l = idle_below t (λ b x y. absurd (omega arith)) (h.phase t) refl
  idle_from (suc n) t l = idle_below t (λ b x y. idle_from n b (omega arith)) (h.phase t) refl

  all_idle : (t : ℕ) → h.phase t ≡ idle
  all_idle t = idle_from P.tasks t (omega arith)

  pub none_held : (t : ℕ) → s.mode t ≡ Free
  none_held t = (i.links.task t).mode_is ∙ rw (all_idle t)

  all_home : (g : ℕ) (x : Token) → h.token g ≡ x → x ≡ home
  all_home g home e = refl
  all_home g (sent w b) e = clash (let z : [] ≡ lock g w ∷ [] = sym (q.no_down g b) ∙ (i.links.pair b g).down_is ∙ simp (e, eqb_same) in cc)
  all_home g (passed w a b) e = absurd (no_passed g w a b e)
  all_home g (queued w b) e = absurd (no_queued g w b e (all_idle b))
  all_home g (in_hand w b) e = absurd (i.none_in_hand g w b e)
  all_home g (returned w u k) e =
      absurd (result_there g k (h.ready_before u g) (h.ready_last u g) (sym (q.no_up u g) ∙ (i.links.pair u g).up_is ∙ simp (e, eqb_same)))

  offered : (t g : ℕ) → Covered P t g (s.offers g t) (h.ready_last t g) (h.token g) (h.phase t) → s.offers g t ≡ true
  offered t g (by_ready a) = absurd (ready_there g (result_by t (h.token g)) (h.ready_before t g) (sym (q.no_up t g) ∙ (i.links.pair t g).up_is ∙ rw a))
  offered t g (by_offer a b) = a
  offered t g (by_token a) = clash (cc (all_home g (h.token g) refl))
  offered t g (by_commit a) = clash (cc (all_idle t))

  pub none_enabled : (g v b : ℕ) → P.holds g v b ≡ true → ((t : ℕ) → P.holds g v t ≡ true → P.ready t (s.at t) g ≡ true) → ⊥
  none_enabled g v b ib f = i.searched g (all_home g (h.token g) refl) v b ib (λ t it. offered t g (i.meaning.covered t g (f t it)))
