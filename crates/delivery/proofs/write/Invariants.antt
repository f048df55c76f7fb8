-- The log is as after the entries so far.
use Rattle.std.proofs.Common.{length, ◌≡◌, ◌≤◌}
use Rattle.delivery.proofs.Written.{written_at}
use Rattle.laws.specs.Turns.{up_to}
use Rattle.delivery.proofs.write.Given as goal

abbrev pub invariant-loop-k : goal.invariant-loop-k
invariant-loop-k l = (l.k ≤ l.count) × (length l.log ≡ length l.initial.log) × (l.log ≡ up_to (written_at l.at l.entries) l.k l.initial.log)
