-- Endpoints and channels whose parties lie below these many tasks and gates. The interface does not speak of it.
use Rattle.std.specs.Prelude.{ℕ, ◌<◌, Option, Some, None}
use Rattle.numbers.specs.declared.Endpoint.{Endpoint}
use Rattle.numbers.specs.declared.Endpoint.TheVariants.{Task, Gate}
use Rattle.state.specs.declared.Link.{Link}
use Rattle.state.specs.declared.Link.TheVariants.{ToGate, FromGate, ToTask}

module _ (tasks gates : ℕ) where
  abbrev pub EndWithin : Option Endpoint → Type 0
  EndWithin None = Unit
  EndWithin (Some (Task t)) = t.0 < tasks
  EndWithin (Some (Gate g)) = g.0 < gates

  abbrev pub LinkWithin : Link → Type 0
  LinkWithin (ToGate t g) = (t.0 < tasks) × (g.0 < gates)
  LinkWithin (FromGate g b) = (g.0 < gates) × (b.0 < tasks)
  LinkWithin (ToTask a b) = (a.0 < tasks) × (b.0 < tasks)

  abbrev pub WayWithin : Option Link → Type 0
  WayWithin None = Unit
  WayWithin (Some link) = LinkWithin link
