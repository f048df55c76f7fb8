-- What a call of the library leaves in the caller's two buffers, and what it gives back.
use Rattle.std.specs.Prelude.{ℕ, cond, List, ◌++◌, ltb, length, drop}
use Rattle.printed.specs.Printed.{Page, printed}
use Rattle.room.specs.Rooms.{room_for}

pub record Call : Type 0 where
  pub count : ℕ
  pub log : List ℕ
  pub text : List ℕ

-- a text buffer that is too short: neither buffer is changed
abbrev pub refused : List ℕ → List ℕ → Call
refused log text = record { count = 0; log = log; text = text }

-- the whole text from the buffer's start on, and behind it what stood there
abbrev pub filled : Page → List ℕ → Call
filled page text = record { count = length page.text; log = page.log; text = page.text ++ drop (length page.text) text }

unfoldable pub called : List ℕ → List ℕ → List ℕ → List ℕ → Call
called table schedule log text =
    cond (ltb (length text) (room_for (length log))) (refused log text) (filled (printed table schedule log) text)
