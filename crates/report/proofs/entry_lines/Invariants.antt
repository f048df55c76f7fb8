-- `entry_lines` meets its contract: the lines of the entries so far are typed.
use Rattle.std.proofs.Common.{◌≡◌}
use Rattle.text.specs.Sheets.{with_typed}
use Rattle.report.specs.Report.{entry_lines}
use Rattle.report.proofs.entry_lines.Given as goal

abbrev pub invariant-loop-i : goal.invariant-loop-i
invariant-loop-i l = l.sheet ≡ with_typed (entry_lines l.masks l.log l.i) l.initial.sheet
