-- The schedule reader's loop, as a walk that has come to a place after a count of records.
use Prim.Native.Nat.{ℕ, ◌+◌}
use mathlib.Core.List.{List}
use lib.ListN.{length}
use Rattle.format.specs.Walk.{walk}
use Rattle.format.proofs.Walks.{Comes}
use Rattle.schedule.specs.Schedules.{fault_at, refused_of, ended_of}

abbrev pub Come : List ℕ → ℕ → ℕ → Type 0
Come file at count =
    Comes file (λ (at n : ℕ). fault_at file at) (λ (at n : ℕ). n + 1) refused_of (ended_of (length file)) at count
    (walk file (λ (at n : ℕ). fault_at file at) (λ (at n : ℕ). n + 1) refused_of (ended_of (length file)) (length file) 0 0)
