-- `new_below` meets its contract: none of the vectors so far is the mask.
use Rattle.std.proofs.Common.{Bool, List, eqb, not, true, ℕ, ◌-◌, ◌≡◌, ◌≤◌}
use Rattle.laws.specs.Below.{all_below}
use Rattle.table.specs.Tables.{mask_of}
use Rattle.table.proofs.new_below.Given as goal

-- vector v of gate g is not the mask
abbrev pub unlike : List ℕ → ℕ → ℕ → ℕ → Bool
unlike masks g mask v = not (eqb (mask_of masks g v) mask)

abbrev pub invariant-loop-v : goal.invariant-loop-v
invariant-loop-v l = (l.v ≤ l.count) × (all_below l.v (unlike l.masks l.gate.0 l.mask) ≡ true)

abbrev pub decreases-loop-v : goal.decreases-loop-v
decreases-loop-v l = l.count - l.v
