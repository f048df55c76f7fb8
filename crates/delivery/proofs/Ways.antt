-- A way between endpoints lies within what its endpoints lie within.
use Rattle.std.specs.Prelude.{Option, Some, None}
use Prim.Native.Nat.{ℕ}
use mathlib.Core.Bool.{Bool, true, false, cond}
use lib.Dec.{eqb}
use Rattle.numbers.proofs.Resolved.{InRange}
use Rattle.numbers.specs.declared.Endpoint.{Endpoint}
use Rattle.numbers.specs.declared.Endpoint.TheVariants.{Task, Gate}
use Rattle.state.specs.declared.Link.TheVariants.{ToTask}
use Rattle.delivery.specs.Delivery.{way_of}
use Rattle.delivery.specs.Within.{EndWithin, WayWithin}

pub way_within : (tasks gates : ℕ) (from to : Option Endpoint) → EndWithin tasks gates from → EndWithin tasks gates to
    → WayWithin tasks gates (way_of from to)
way_within tasks gates None e p q = tt
way_within tasks gates (Some (Task a)) None p q = tt
way_within tasks gates (Some (Task a)) (Some (Task b)) p q = either (eqb a.0 b.0)
  where
    either : (same : Bool) → WayWithin tasks gates (cond same None (Some (ToTask a b)))
    either true = tt
    either false = (p, q)
way_within tasks gates (Some (Task t)) (Some (Gate g)) p q = (p, q)
way_within tasks gates (Some (Gate g)) None p q = tt
way_within tasks gates (Some (Gate g)) (Some (Task b)) p q = (p, q)
way_within tasks gates (Some (Gate g)) (Some (Gate h)) p q = tt

pub end_within : (e : Option Endpoint) → InRange e → EndWithin 16 16 e
end_within None p = tt
end_within (Some (Task t)) p = p
end_within (Some (Gate g)) p = p
