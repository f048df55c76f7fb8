-- `states` meets its contract: the states of the tasks so far are typed.
use Rattle.std.proofs.Common.{◌≡◌}
use Rattle.text.specs.Sheets.{with_typed}
use Rattle.report.specs.Report.{states}
use Rattle.report.proofs.states.Given as goal

abbrev pub invariant-loop-t : goal.invariant-loop-t
invariant-loop-t l = l.sheet ≡ with_typed (states l.s l.t) l.initial.sheet
