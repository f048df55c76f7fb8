-- What each delivery of a run answers. The law does not speak of it: `allowed` says more, of any delivery in any reached
-- state.
use Rattle.std.specs.Prelude.{List, [], ◌∷◌, ◌≢◌, Err}
use Rattle.answers.specs.Answers.{Answer}
use Rattle.answers.specs.declared.Refusal.TheVariants.{Unsound, Excluded}
use Rattle.table.specs.declared.Table.{Table}
use Rattle.schedule.specs.declared.Delivery.{Delivery}
use Rattle.delivery.specs.Delivery.{Outcome, delivered}

unfoldable pub answers : Table → Outcome → List Delivery → List Answer
answers T o [] = []
answers T o (d ∷ deliveries) =
    (delivered T o.state o.log d.from d.to).answer
    ∷ answers T (delivered T o.state o.log d.from d.to) deliveries

-- neither 11 nor 12
abbrev pub Allowed : Answer → Type 0
Allowed a = (a ≢ (Err Unsound)) × (a ≢ (Err Excluded))

-- each of a list is so
abbrev pub Each : {A : Type 0} → (A → Type 0) → List A → Type 0
Each P [] = Unit {0}
Each P (x ∷ xs) = P x × Each P xs
