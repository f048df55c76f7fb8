-- The paper's table "Numbers given back".
use Rattle.std.specs.Prelude.{ℕ, Bool, true, false, Result, Ok, Err}
use Rattle.answers.specs.declared.Refusal.{Refusal}
use Rattle.answers.specs.declared.Refusal.TheVariants.{CutOff, Kind, BodyLength, FieldRange, Order, Missing, TooMany, NoChannel, ChannelEmpty, LogFull, Unsound, Excluded}

abbrev pub refusal_number : Refusal → ℕ
-- a record is cut off
refusal_number CutOff = 1
refusal_number Kind = 2
refusal_number BodyLength = 3
refusal_number FieldRange = 4
refusal_number Order = 5
-- a record is missing
refusal_number Missing = 6
refusal_number TooMany = 7
-- no such channel: an endpoint is absent, gate to gate, or from equals to
refusal_number NoChannel = 8
refusal_number ChannelEmpty = 9
-- the entries that a delivery would write exceed the log's free room
refusal_number LogFull = 10
-- the table or the state breaks a range rule, or the log count exceeds the capacity
refusal_number Unsound = 11
-- the delivery meets what the protocol excludes
refusal_number Excluded = 12

-- 0 is done
abbrev pub Answer : Type 0
Answer = Result Unit Refusal

abbrev pub number_of : Answer → ℕ
number_of (Ok x) = 0
number_of (Err r) = refusal_number r

abbrev pub is_done : Answer → Bool
is_done (Ok x) = true
is_done (Err r) = false
