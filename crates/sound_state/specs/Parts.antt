-- The parts of the rules that have a function of their own, and what a test does that such a function takes. The
-- interface does not speak of them.
use Rattle.std.specs.Prelude.{ℕ, ◌<◌, ◌≡◌, Bool, cond, ◌&&◌, List, eqb, ltb, leb, get_or}
use Rattle.laws.specs.Below.{all_below}
use Rattle.numbers.specs.declared.TaskNo.{TaskNo}
use Rattle.channels.specs.Channels.{no_request, is_ready, empty1, empty3}
use Rattle.channels.specs.declared.Request.{Request}
use Rattle.channels.specs.declared.Message.{Message}
use Rattle.channels.specs.declared.Channel1.{Channel1}
use Rattle.channels.specs.declared.Channel3.{Channel3}
use Rattle.sound_state.specs.SoundState.{is_no_request, names, up_sound}

-- a place of a list or a channel: one in use holds what fits there, and any other the filler
abbrev pub place : Bool → Bool → Bool → Bool
place used fits empty = cond used fits empty

abbrev pub state_sound : Bool → ℕ → ℕ → Bool
state_sound present states x = cond present (ltb x states) (eqb x 0)

abbrev pub room : Bool → ℕ → ℕ
room present n = cond present n 0

abbrev pub ups_sound : Bool → ℕ → List Channel3 → Bool
ups_sound present gates up = all_below 16 (λ (g : ℕ). up_sound (present && ltb g gates) g (get_or up g empty3))

-- a channel for one message, of which fits says whether its pair can send it
abbrev pub one_sound : Bool → Bool → Channel1 → Bool
one_sound present fits c = leb c.count (room present 1) && place (ltb 0 c.count) fits (is_ready c.first)

-- the channels to the tasks, where fits says what may be sent to each
abbrev pub channels_sound : Bool → ℕ → (ℕ → Message → Bool) → List Channel1 → Bool
channels_sound present tasks fits channels =
    all_below 16 (λ (b : ℕ). let c = get_or channels b empty1 in one_sound (present && ltb b tasks) (fits b c.first) c)

module _ (vectors masks : List ℕ) where
  -- a place of the waiting list
  abbrev pub waiting_sound : ℕ → Bool → Request → Bool
  waiting_sound t used r = cond used (names vectors masks t r) (is_no_request r)

  abbrev pub waitings_sound : ℕ → ℕ → List Request → Bool
  waitings_sound t count waiting = all_below 16 (λ (i : ℕ). waiting_sound t (ltb i count) (get_or waiting i no_request))

-- where a test may answer r at place i and what that holds, r is P i
abbrev pub TestsBy : {T : Type 0} → (ℕ → T → Bool → Type 0) → List T → (ℕ → Bool) → Type 0
TestsBy post places P = (i : ℕ) (x : _) (r : Bool) → i < 16 → x ≡ get_or places i x → post i x r → r ≡ P i

-- where a test may answer r of a message to task b, r is P b of it
abbrev pub AnswersBy : (TaskNo → Message → Bool → Type 0) → (ℕ → Message → Bool) → Type 0
AnswersBy post P = (b : ℕ) (m : Message) (r : Bool) → post (record { 0 = b }) m r → r ≡ P b m
