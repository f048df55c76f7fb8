-- `highest` meets its contract: the invariant is that the search below t still gives the answer.
use Rattle.std.proofs.Common.{◌≡◌, ◌≤◌}
use Rattle.laws.specs.Last.{last_below}
use Rattle.sets.specs.Sets.{member_of}
use Rattle.sets.proofs.highest.Given as goal

abbrev pub invariant-loop-t : goal.invariant-loop-t
invariant-loop-t l = (l.t ≤ 16) × (last_below 16 (member_of l.set) 16 ≡ last_below l.t (member_of l.set) 16)
