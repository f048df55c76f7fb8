-- The parties of a delivery stand within the 16 tasks and the 16 gates, and no task sends itself anything.
use Rattle.std.specs.Prelude.{◌≢◌, Option, Some, None}
use Prim.Native.Nat.{ℕ}
use mathlib.Core.Bool.{Bool, true, false, cond, true≢false}
use mathlib.Core.Path.{◌≡◌, refl, sym, subst, ◌∙◌}
use lib.Dec.{eqb}
use borrow.Author.Tests.{eq-eqb}
use Rattle.numbers.proofs.Resolved.{in_range}
use Rattle.numbers.specs.Endpoints.{endpoint_of}
use Rattle.numbers.specs.declared.TaskNo.{TaskNo}
use Rattle.numbers.specs.declared.Endpoint.{Endpoint}
use Rattle.numbers.specs.declared.Endpoint.TheVariants.{Task, Gate}
use Rattle.state.specs.declared.Link.{Link}
use Rattle.state.specs.declared.Link.TheVariants.{ToTask}
use Rattle.delivery.specs.Delivery.{way_of}
use Rattle.delivery.specs.Within.{LinkWithin, WayWithin}
use Rattle.delivery.proofs.Ways.{way_within, end_within}

pub link_within : (tasks gates from to : ℕ) (link : Link) → way_of (endpoint_of tasks gates from) (endpoint_of tasks gates to) ≡ Some link
    → LinkWithin 16 16 link
link_within tasks gates from to link h =
    let x : Option Endpoint = endpoint_of tasks gates from in
    let y : Option Endpoint = endpoint_of tasks gates to in
    subst (WayWithin 16 16) h
    (way_within 16 16 x y (end_within x (in_range tasks gates from)) (end_within y (in_range tasks gates to)))

pub apart : (x y : Option Endpoint) (a b : TaskNo) → way_of x y ≡ Some (ToTask a b) → a.0 ≢ b.0
apart None y a b e = λ h. cc
apart (Some (Task c)) None a b e = λ h. cc
apart (Some (Task c)) (Some (Task d)) a b e = turn (eqb c.0 d.0) refl e
  where
    turn : (same : Bool) → eqb c.0 d.0 ≡ same → cond same None (Some (ToTask c d)) ≡ Some (ToTask a b) → a.0 ≢ b.0
    turn true s h = λ g. cc
    turn false s h = let l : c.0 ≡ a.0 = cc in let r : d.0 ≡ b.0 = cc in λ g. true≢false (sym (eq-eqb c.0 d.0 (l ∙ g ∙ sym r)) ∙ s)
apart (Some (Task c)) (Some (Gate g)) a b e = λ h. cc
apart (Some (Gate g)) None a b e = λ h. cc
apart (Some (Gate g)) (Some (Task d)) a b e = λ h. cc
apart (Some (Gate g)) (Some (Gate k)) a b e = λ h. cc
