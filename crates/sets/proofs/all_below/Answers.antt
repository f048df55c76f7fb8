-- A mask has no bit from 16 on.
use Prim.Native.Nat.{◌<◌, ◌≤◌, ◌^◌}
use native.Mathlib.Nat.{div-eq_of_lt}
use native.Mathlib.Omega.{arith}
use lib.Pow.{pow_mono}
use borrow.Author.Rules.{rules}
use Rattle.sets.proofs.all_below.Goals as goal

pub returns-else-tasks-lt16 : goal.returns-else-tasks-lt16
returns-else-tasks-lt16 c =
    let a = c.args in
    let h : 16 ≤ a.tasks = omega arith in
    let m : a.set < 65536 = search rules in
    let p : 2 ^ 16 ≤ 2 ^ a.tasks = pow_mono h in rw (div-eq_of_lt {n = a.set} {m = 2 ^ a.tasks} (omega arith))
