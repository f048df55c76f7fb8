-- What is quickly seen keeps the rules: lists that hold nothing, and channels that hold READY only.
use Prim.Native.Nat.{ℕ, ◌<◌}
use mathlib.Core.Bool.{Bool, true, false, ◌&&◌, true≢false}
use mathlib.Core.List.{List}
use mathlib.Core.Path.{◌≡◌, refl, sym}
use native.Mathlib.Omega.{arith}
use lib.Dec.{eqb, ltb, leb}
use lib.ListN.{get_or}
use borrow.Author.Tests.{eqb-true, le-leb}
use Rattle.laws.specs.Below.{all_below}
use Rattle.laws.proofs.Numbers.{below_at, below_of}
use Rattle.std.proofs.lemmas.Bool.{and_from, and_parts}
use Rattle.channels.specs.Channels.{is_ready, empty1, empty3}
use Rattle.channels.specs.declared.Message.{Message}
use Rattle.channels.specs.declared.Message.TheVariants.{Ready, Lock, Commit, Abort}
use Rattle.channels.specs.declared.Channel1.{Channel1}
use Rattle.channels.specs.declared.Channel3.{Channel3}
use Rattle.sound_state.specs.SoundState.{up_fits, up_sound}
use Rattle.sound_state.specs.Parts.{place, room, one_sound, ups_sound, channels_sound}
use Rattle.sound_state.specs.Quiet.{is_empty, is_silent, is_ready_only, all_ready}

-- a test that holds wherever another does
below_by : (P Q : ℕ → Bool) → ((k : ℕ) → P k ≡ true → Q k ≡ true) → all_below 16 P ≡ true → all_below 16 Q ≡ true
below_by P Q h a = below_of 16 Q (λ (k : ℕ) (l : k < 16). h k (below_at 16 P a k l))

empty_sound : (present fits : Bool) (c : Channel1) → is_empty c ≡ true → one_sound present fits c ≡ true
empty_sound present fits c h =
    rw (
      eqb-true c.count 0 ((and_parts (eqb c.count 0) (is_ready c.first) h).0),
      (and_parts (eqb c.count 0) (is_ready c.first) h).1,
      le-leb 0 (room present 1) (omega arith),
    )

pub silent_sound : (present fits : ℕ → Bool) (l : List Channel1) → is_silent l ≡ true
    → all_below 16 (λ (b : ℕ). one_sound (present b) (fits b) (get_or l b empty1)) ≡ true
silent_sound present fits l = below_by _ _ (λ (b : ℕ). empty_sound (present b) (fits b) (get_or l b empty1))

-- the same of the channels to the tasks
pub silent_channels : (present : Bool) (tasks : ℕ) (fits : ℕ → Message → Bool) (channels : List Channel1) → is_silent channels ≡ true
    → channels_sound present tasks fits channels ≡ true
silent_channels present tasks fits channels =
    silent_sound (λ (b : ℕ). present && ltb b tasks) (λ (b : ℕ). fits b (get_or channels b empty1).first) channels

ready_place : (used : Bool) (g : ℕ) (m : Message) → is_ready m ≡ true → place used (up_fits g m) (is_ready m) ≡ true
ready_place true g Ready h = refl
ready_place true g (Lock r) h = h
ready_place true g (Commit o) h = absurd (true≢false (sym h))
ready_place true g (Abort o) h = absurd (true≢false (sym h))
ready_place false g m h = h

ready_channel : (present : Bool) (g : ℕ) (c : Channel3) → is_ready_only present c ≡ true → up_sound present g c ≡ true
ready_channel present g c h =
    let within : Bool = leb c.count (room present 3) in
    let later : Bool = is_ready c.second && is_ready c.third in
    let m = (and_parts within (is_ready c.first && later) h).1 in
    let n = (and_parts (is_ready c.first) later m).1 in
    and_from _ _ ((and_parts within _ h).0)
    (and_from _ _ (ready_place (ltb 0 c.count) g c.first ((and_parts (is_ready c.first) _ m).0))
    (and_from _ _ (ready_place (ltb 1 c.count) g c.second ((and_parts (is_ready c.second) _ n).0))
    (ready_place (ltb 2 c.count) g c.third ((and_parts (is_ready c.second) (is_ready c.third) n).1))))

pub ready_sound : (present : Bool) (gates : ℕ) (up : List Channel3) → all_ready present gates up ≡ true
    → ups_sound present gates up ≡ true
ready_sound present gates up = below_by _ _ (λ (g : ℕ). ready_channel (present && ltb g gates) g (get_or up g empty3))
