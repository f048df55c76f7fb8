-- `put_word` meets its contract: what was read of the word is typed.
use Rattle.std.proofs.Common.{take, ◌≡◌}
use Rattle.text.specs.Sheets.{with_typed}
use Rattle.text.proofs.Sheet.put_word.Given as goal

abbrev pub invariant-loop-byte : goal.invariant-loop-byte
invariant-loop-byte l = l.self ≡ with_typed (take l.byte-index l.word) l.initial.self
