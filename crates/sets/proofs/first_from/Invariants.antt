-- `first_from` meets its contract: the invariant is that the search from t on still gives the answer.
use Rattle.std.proofs.Common.{◌-◌, ◌≡◌, ◌≤◌}
use Rattle.laws.specs.Below.{first_from}
use Rattle.sets.specs.Sets.{member_of}
use Rattle.sets.proofs.first_from.Given as goal

abbrev pub invariant-loop-t : goal.invariant-loop-t
invariant-loop-t l = (l.t ≤ 16) × (first_from l.from (16 - l.from) (member_of l.set) ≡ first_from l.t (16 - l.t) (member_of l.set))
