-- "The simple machine": it knows no message.
use Rattle.std.specs.Prelude.{ℕ, Bool, true, cond, ◌&&◌, ◌||◌, not, List, [], ◌∷◌, ltb, get_or, Option, Some, None}
use Rattle.laws.specs.Below.{all_below}
use Rattle.sets.specs.Sets.{member_of}
use Rattle.table.specs.Tables.{move_of, ready_of, mask_of}
use Rattle.table.specs.declared.Table.{Table}

-- an entry of the log
pub record Entry : Type 0 where
  pub gate : ℕ
  pub vector : ℕ

-- where a move leads from state x
abbrev pub moved : ℕ → Option ℕ → ℕ
moved x None = x
moved x (Some y) = y

-- "It holds one state per task": `at` has the state of each.
module _ (T : Table) where
  abbrev pub starts : ℕ → ℕ
  starts t = get_or T.starts t 0

  abbrev pub takes_part : ℕ → ℕ → ℕ → Bool
  takes_part g v t = member_of (mask_of T.masks g v) t

  -- "A vector of gate g is enabled when every task in it is ready at g."
  unfoldable pub enabled : (ℕ → ℕ) → ℕ → ℕ → Bool
  enabled at g v = ltb v (get_or T.vectors g 0) && all_below 16 (λ (t : ℕ). not (takes_part g v t) || ready_of T.moves t (at t) g)

  -- "Firing it moves all its tasks at once."
  abbrev pub fired : (ℕ → ℕ) → ℕ → ℕ → ℕ → ℕ
  fired at g v t = cond (takes_part g v t) (moved (at t) (move_of T.moves t (at t) g)) (at t)

  -- "A log is legal when each entry is enabled and fired in turn from the start states." The oldest entry is first.
  unfoldable pub legal : (ℕ → ℕ) → List Entry → Bool
  legal at [] = true
  legal at (e ∷ entries) = enabled at e.gate e.vector && legal (fired at e.gate e.vector) entries

  -- the states that the entries lead to
  unfoldable pub replay : (ℕ → ℕ) → List Entry → ℕ → ℕ
  replay at [] = at
  replay at (e ∷ entries) = replay (fired at e.gate e.vector) entries
