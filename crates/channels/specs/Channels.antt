-- "a first-in first-out channel .. Unused room holds a fixed filler."
use Rattle.std.specs.Prelude.{ℕ, ◌-◌, Bool, true, false, cond, eqb, Option, Some, None}
use Rattle.channels.specs.declared.Request.{Request}
use Rattle.channels.specs.declared.Message.{Message}
use Rattle.channels.specs.declared.Message.TheVariants.{Ready, Lock, Commit, Abort}
use Rattle.channels.specs.declared.Channel1.{Channel1}
use Rattle.channels.specs.declared.Channel3.{Channel3}

-- the fillers: of a waiting list, and of a channel a READY
abbrev pub no_request : Request
no_request = record { gate = record { 0 = 0 }; vector = 0 }

abbrev pub is_ready : Message → Bool
is_ready Ready = true
is_ready (Lock r) = false
is_ready (Commit g) = false
is_ready (Abort g) = false

abbrev pub empty1 : Channel1
empty1 = record { count = 0; first = Ready }

abbrev pub empty3 : Channel3
empty3 = record { count = 0; first = Ready; second = Ready; third = Ready }

-- "It takes the oldest message of the channel named": the front of a channel of n messages, the first of them m
abbrev pub front_of : ℕ → Message → Option Message
front_of n m = cond (eqb n 0) None (Some m)

-- without the oldest message; of a channel for one message nothing is left
abbrev pub popped3 : Channel3 → Channel3
popped3 c = record { count = c.count - 1; first = c.second; second = c.third; third = Ready }

-- with a message put last; a full channel stays as it is
abbrev pub put1 : Channel1 → Message → Channel1
put1 c m = cond (eqb c.count 0) (record { count = 1; first = m }) c

abbrev pub put3 : Channel3 → Message → Channel3
put3 c m =
    cond (eqb c.count 0) (record { count = 1; first = m; second = c.second; third = c.third })
    (cond (eqb c.count 1) (record { count = 2; first = c.first; second = m; third = c.third })
    (cond (eqb c.count 2) (record { count = 3; first = c.first; second = c.second; third = m })
    c))

-- "the newest message in that channel is a READY already"
abbrev pub ends_ready : Channel3 → Bool
ends_ready c =
    cond (eqb c.count 0) false
    (cond (eqb c.count 1) (is_ready c.first)
    (cond (eqb c.count 2) (is_ready c.second)
    (is_ready c.third)))
