-- A number of four bytes, as the programs of the tests read one.
use Rattle.std.specs.Prelude.{ℕ, ◌+◌, ◌*◌, List, get_or}

-- the number in the first four bytes of a list, the lowest first; past the end stands 0
abbrev pub four_of : List ℕ → ℕ
four_of list = get_or list 0 0 + get_or list 1 0 * 256 + get_or list 2 0 * 65536 + get_or list 3 0 * 16777216
