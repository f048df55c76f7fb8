-- A record more, a refused record, and the end: the laws of the walk.
use Prim.Native.Nat.{ℕ, ◌+◌}
use mathlib.Core.Path.{◌∙◌, ap, sym}
use native.Mathlib.Omega.{arith}
use lib.ListN.{length}
use borrow.Author.Rules.{rules}
use borrow.Author.Tests.{le-ltb}
use Rattle.answers.specs.Answers.{is_done}
use Rattle.format.proofs.Walks.{comes_first, comes_more, comes_refused, comes_ended}
use Rattle.schedule.specs.Schedules.{fault_at, refused_of, ended_of, schedule_of}
use Rattle.schedule.proofs.read.Goals as goal

pub loop-at-init : goal.loop-at-init
loop-at-init c = (search rules, comes_first _ _ _ _ _ _)

pub returns-in-Err : goal.returns-in-Err
unfolding schedule_of
returns-in-Err c =
    let w = c.loop-at in
    let f = c.args.file.now in
    let e = sym c.fault_at.ensures ∙ c.in-Err.is in
    rw (le-ltb 60000 (length f) (omega arith), c.refused-in-Err.ensures, ← e)
    (comes_refused f (λ (at n : ℕ). fault_at f at) (λ (at n : ℕ). n + 1) refused_of (ended_of (length f)) w.invariant.1
    (search rules) (ap is_done e))

pub loop-at-preserved : goal.loop-at-preserved
loop-at-preserved c =
    let w = c.loop-at in
    let f = c.args.file.now in (
      search rules,
      rw c.size_at-at.ensures
          (comes_more f (λ (at n : ℕ). fault_at f at) (λ (at n : ℕ). n + 1) refused_of (ended_of (length f)) w.invariant.1
          (search rules) (ap is_done (sym c.fault_at.ensures ∙ c.in_default.is))),
    )

pub returns : goal.returns
unfolding schedule_of
returns c =
    let w = c.loop-at in
    let f = c.args.file.now in
    rw (le-ltb 60000 (length f) (omega arith))
    (comes_ended f (λ (at n : ℕ). fault_at f at) (λ (at n : ℕ). n + 1) refused_of (ended_of (length f)) w.invariant.1
    (search rules))
