-- Room for a text.
use Rattle.std.specs.Prelude.{ℕ, ◌+◌, ◌*◌}

-- how many bytes are enough for all that is printed with a log of n bytes
abbrev pub room_for : ℕ → ℕ
room_for n = 200 + 20 * n
