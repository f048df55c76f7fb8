-- The invariant is that the search from v on still gives the answer.
use Rattle.std.proofs.Common.{Bool, List, ℕ, ◌-◌, ◌≡◌}
use Rattle.laws.specs.Below.{first_from}
use Rattle.sets.specs.Sets.{subset_of}
use Rattle.table.specs.Tables.{mask_of}
use Rattle.gates.specs.Gates.{fitting}
use Rattle.gates.proofs.fitting.Given as goal

-- the tasks of vector v are all in the offers
abbrev pub fits : List ℕ → ℕ → ℕ → ℕ → Bool
fits masks g offers v = subset_of (mask_of masks g v) offers

abbrev pub invariant-loop-v : goal.invariant-loop-v
invariant-loop-v l =
    fitting l.vectors.masks.now l.vectors.count (l.vectors.gate.0) l.offers ≡ first_from l.v (l.vectors.count - l.v) (fits l.vectors.masks.now (l.vectors.gate.0) l.offers)
