-- What channels and a log hold.
use Rattle.std.specs.Prelude.{ℕ, suc, zero, ◌+◌, ◌*◌, List, [], ◌∷◌, ◌++◌, get_or, take}
use Rattle.channels.specs.declared.Message.{Message}
use Rattle.channels.specs.declared.Channel1.{Channel1}
use Rattle.channels.specs.declared.Channel3.{Channel3}
use Rattle.machine.specs.Machine.{Entry}

-- the messages of a channel, the oldest first
abbrev pub messages1 : Channel1 → List Message
messages1 c = take c.count (c.first ∷ [])

abbrev pub messages3 : Channel3 → List Message
messages3 c = take c.count (c.first ∷ c.second ∷ c.third ∷ [])

-- the first n entries of a log, the oldest first: "two bytes an entry (gate, vector)"
unfoldable pub entries_of : ℕ → List ℕ → List Entry
entries_of zero log = []
entries_of (suc n) log = entries_of n log ++ record { gate = get_or log (n * 2) 0; vector = get_or log (n * 2 + 1) 0 } ∷ []
