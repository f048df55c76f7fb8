-- A sheet: a lent buffer, and where the next byte goes.
use Rattle.std.specs.Prelude.{ℕ, List}
use Rattle.text.specs.declared.Sheet.{Sheet}
use Rattle.text.specs.Text.{Text, typed}

-- the text on a sheet, the same sheet with another text, and with a list typed on it
abbrev pub on : Sheet → Text
on s = record { bytes = s.bytes.now; at = s.at }

abbrev pub with_text : Text → Sheet → Sheet
with_text t s = record s { bytes = record s.bytes { now = t.bytes }; at = t.at }

unfoldable pub with_typed : List ℕ → Sheet → Sheet
with_typed bs s = with_text (typed bs (on s)) s
