-- A resolved endpoint's number lies below 16.
use Rattle.std.specs.Prelude.{Option, Some, None}
use Prim.Native.Nat.{ℕ, ◌-◌, ◌<◌}
use mathlib.Core.Bool.{Bool, true, false, cond}
use mathlib.Core.Path.{◌≡◌, refl}
use native.Mathlib.Omega.{arith}
use lib.Dec.{ltb}
use borrow.Author.Tests.{ltb-true}
use Rattle.laws.proofs.Tests.{either}
use Rattle.numbers.specs.Endpoints.{endpoint_of}
use Rattle.numbers.specs.declared.Endpoint.{Endpoint}
use Rattle.numbers.specs.declared.Endpoint.TheVariants.{Task, Gate}

-- a number that an endpoint gives lies below 16
abbrev pub InRange : Option Endpoint → Type 0
InRange None = Unit {0}
InRange (Some (Task t)) = t.0 < 16
InRange (Some (Gate g)) = g.0 < 16

pub in_range : (tasks gates e : ℕ) → InRange (endpoint_of tasks gates e)
in_range tasks gates e = first (ltb e 16) refl
  where
    second : (t : Bool) → ltb e 32 ≡ t → InRange (cond t (cond (ltb (e - 16) gates) (Some (Gate (record { 0 = e - 16 }))) None) None)
    second true h =
        either InRange (ltb (e - 16) gates) (Some (Gate (record { 0 = e - 16 }))) None
        (let l : e < 32 = ltb-true e 32 h in let r : e - 16 < 16 = omega arith in r) tt
    second false h = tt

    first : (t : Bool) → ltb e 16 ≡ t
        → InRange (cond t (cond (ltb e tasks) (Some (Task (record { 0 = e }))) None) (cond (ltb e 32) (cond (ltb (e - 16) gates) (Some (Gate (record { 0 = e - 16 }))) None) None))
    first true h = either InRange (ltb e tasks) (Some (Task (record { 0 = e }))) None (ltb-true e 16 h) tt
    first false h = second (ltb e 32) refl
