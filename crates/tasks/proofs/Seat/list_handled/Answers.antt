-- A request more is handled while the task is Free, and adds at most one entry.
use Prim.Native.Nat.{◌-◌}
use mathlib.Core.Bool.{true, false}
use mathlib.Core.Path.{◌≡◌, sym, ◌∙◌}
use native.Mathlib.Omega.{arith}
use lib.ListN.{get_or}
use borrow.Author.Rules.{rules}
use Rattle.channels.specs.Channels.{no_request}
use Rattle.state.specs.States.{without_front}
use Rattle.tasks.specs.Tasks.{with, is_free}
use Rattle.tasks.specs.declared.Work.{Work}
use Rattle.tasks.proofs.Fired.{handled_fired}
use Rattle.tasks.proofs.Listed.{list_more, list_held, list_none}
use Rattle.tasks.proofs.Seat.list_handled.Goals as goal

pub returns-then-not-is_free : goal.returns-then-not-is_free
returns-then-not-is_free c =
    let a = c.args in
    let g = c.loop in
    let f : is_free g.w.task.mode ≡ false = sym c.is_free.ensures ∙ c.if-not-is_free.true in
    sym (list_held a.self.rules.moves.now a.self.rules.gates a.self.number.0 a.self.rules.masks.now (a.count - g.counter) g.w f) ∙ g.invariant.1

pub loop-preserved : goal.loop-preserved
loop-preserved c =
    let a = c.args in
    let g = c.loop in
    let f : is_free g.w.task.mode ≡ true = sym c.is_free.ensures ∙ c.if-not-is_free.false in
    let v : Work = with g.w (without_front g.w.task) g.w.ok in
    let h = handled_fired a.self.rules.moves.now a.self.rules.gates a.self.number.0 a.self.rules.masks.now (get_or g.w.task.waiting 0 no_request) v in
    rw (
      c.handled-w.ensures,
      c.with.ensures,
      c.without_front.ensures,
    ) (
      omega (arith, h, g.invariant.0),
      sym (list_more a.self.rules.moves.now a.self.rules.gates a.self.number.0 a.self.rules.masks.now a.count g.counter g.w (search rules) f)
          ∙ g.invariant.1,
    )

pub returns : goal.returns
returns c =
    let a = c.args in
    let g = c.loop in
    let e : a.count - g.counter ≡ 0 = omega arith in
    sym (rw (e, list_none a.self.rules.moves.now a.self.rules.gates a.self.number.0 a.self.rules.masks.now g.w) at (sym g.invariant.1))
