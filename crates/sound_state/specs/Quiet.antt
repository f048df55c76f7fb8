-- What most parts of a state are, and is quickly seen: lists that hold nothing, and channels that hold READY only.
-- These keep the rules (proofs/Keep.antt), so only the others are looked at rule by rule.
use Rattle.std.specs.Prelude.{ℕ, Bool, ◌&&◌, List, eqb, ltb, leb, get_or}
use Rattle.laws.specs.Below.{all_below}
use Rattle.channels.specs.Channels.{no_request, is_ready, empty1, empty3}
use Rattle.channels.specs.declared.Request.{Request}
use Rattle.channels.specs.declared.Channel1.{Channel1}
use Rattle.channels.specs.declared.Channel3.{Channel3}
use Rattle.sound_state.specs.SoundState.{is_no_request}
use Rattle.sound_state.specs.Parts.{room}

abbrev pub none_waits : List Request → Bool
none_waits waiting = all_below 16 (λ (i : ℕ). is_no_request (get_or waiting i no_request))

abbrev pub is_empty : Channel1 → Bool
is_empty c = eqb c.count 0 && is_ready c.first

abbrev pub is_silent : List Channel1 → Bool
is_silent channels = all_below 16 (λ (b : ℕ). is_empty (get_or channels b empty1))

abbrev pub is_ready_only : Bool → Channel3 → Bool
is_ready_only present c =
    leb c.count (room present 3) && (is_ready c.first && (is_ready c.second && is_ready c.third))

abbrev pub all_ready : Bool → ℕ → List Channel3 → Bool
all_ready present gates up = all_below 16 (λ (g : ℕ). is_ready_only (present && ltb g gates) (get_or up g empty3))
