-- "11 covers .. in the state": each rule of that paragraph.
use Rattle.std.specs.Prelude.{ℕ, Bool, true, false, cond, ◌&&◌, List, eqb, ltb, leb, get_or, is_some}
use Rattle.laws.specs.Below.{all_below}
use Rattle.sets.specs.Sets.{member_of, all_below_of, next_above_of}
use Rattle.table.specs.Tables.{mask_of}
use Rattle.channels.specs.Channels.{no_request, is_ready}
use Rattle.channels.specs.declared.Request.{Request}
use Rattle.channels.specs.declared.Message.{Message}
use Rattle.channels.specs.declared.Message.TheVariants.{Ready, Lock, Commit, Abort}
use Rattle.channels.specs.declared.Channel1.{Channel1}
use Rattle.channels.specs.declared.Channel3.{Channel3}
use Rattle.state.specs.States.{task_of, gate_of, up_of, across_of, down_of}
use Rattle.state.specs.declared.Mode.{Mode}
use Rattle.state.specs.declared.Mode.TheVariants.{Free, Held}
use Rattle.state.specs.declared.Deal.{Deal}
use Rattle.state.specs.declared.Deal.TheVariants.{Idle, Dealing}
use Rattle.state.specs.declared.Task.{Task}
use Rattle.state.specs.declared.Gate.{Gate}
use Rattle.state.specs.declared.State.{State}

-- the filler of a waiting list
abbrev pub is_no_request : Request → Bool
is_no_request r = eqb r.gate.0 0 && eqb r.vector 0

-- what a task may send gate g: "READY, COMMIT and ABORT", and a result "on its way to a gate .. names that gate"
abbrev pub up_fits : ℕ → Message → Bool
up_fits g Ready = true
up_fits g (Lock r) = false
up_fits g (Commit h) = eqb h.0 g
up_fits g (Abort h) = eqb h.0 g

-- "channels within room, with only the kinds their pair can send"; room there is only between parties that are present,
-- and what is unused holds the filler
abbrev pub up_sound : Bool → ℕ → Channel3 → Bool
up_sound present g c =
    leb c.count (cond present 3 0)
    && (cond (ltb 0 c.count) (up_fits g c.first) (is_ready c.first)
    && (cond (ltb 1 c.count) (up_fits g c.second) (is_ready c.second)
    && cond (ltb 2 c.count) (up_fits g c.third) (is_ready c.third)))

-- the same of a channel for one message, where fits says what its pair can send
abbrev pub channel_sound : Bool → (Message → Bool) → Channel1 → Bool
channel_sound present fits c = leb c.count (cond present 1 0) && cond (ltb 0 c.count) (fits c.first) (is_ready c.first)

-- "Dealing names an existing vector"
abbrev pub deal_sound : List ℕ → ℕ → Deal → Bool
deal_sound vectors g Idle = true
deal_sound vectors g (Dealing v) = ltb v (get_or vectors g 0)

-- The vectors of the table.
module _ (vectors masks : List ℕ) where
  -- a request "names an existing vector that holds" task t
  abbrev pub names : ℕ → Request → Bool
  names t r = ltb r.vector (get_or vectors r.gate.0 0) && member_of (mask_of masks r.gate.0 r.vector) t

  -- "a Held task lies in the named vector and isn't its highest"; "a Free task has an empty list"
  abbrev pub mode_sound : ℕ → ℕ → Mode → Bool
  mode_sound t count Free = eqb count 0
  mode_sound t count (Held r) = names t r && is_some (next_above_of (mask_of masks r.gate.0 r.vector) t)

  -- what task a may send task b: "higher tasks LOCK, lower tasks COMMIT and ABORT"; "a result names a present gate"
  abbrev pub across_fits : ℕ → ℕ → ℕ → Message → Bool
  across_fits gates a b Ready = false
  across_fits gates a b (Lock r) = ltb a b && names b r
  across_fits gates a b (Commit h) = ltb b a && ltb h.0 gates
  across_fits gates a b (Abort h) = ltb b a && ltb h.0 gates

  -- what gate g may send task b: "LOCK only", and "a LOCK from a gate names that gate"
  abbrev pub down_fits : ℕ → ℕ → Message → Bool
  down_fits g b Ready = false
  down_fits g b (Lock r) = eqb r.gate.0 g && names b r
  down_fits g b (Commit h) = false
  down_fits g b (Abort h) = false

  -- Of the table also its counts.
  module _ (tasks gates : ℕ) where
    -- task t, which has these many states: "task states in range", its mode, its list, and what it sends each gate and
    -- each task; "absent parties .. are empty"
    unfoldable pub task_sound : ℕ → ℕ → Task → Bool
    task_sound t states p =
        (cond (ltb t tasks) (ltb p.state states) (eqb p.state 0)
        && (mode_sound t p.count p.mode && leb p.count 16))
        && (all_below 16 (λ (i : ℕ). let r = get_or p.waiting i no_request in cond (ltb i p.count) (names t r) (is_no_request r))
        && (all_below 16 (λ (g : ℕ). up_sound (ltb t tasks && ltb g gates) g (up_of p g))
        && all_below 16 (λ (b : ℕ). channel_sound (ltb t tasks && ltb b tasks) (across_fits gates t b) (across_of p b))))

    -- "offers name present tasks", and what the gate sends each task; an absent gate is empty
    unfoldable pub gate_sound : ℕ → Gate → Bool
    gate_sound g k =
        (all_below_of k.offers (cond (ltb g gates) tasks 0) && deal_sound vectors g k.deal)
        && all_below 16 (λ (b : ℕ). channel_sound (ltb g gates && ltb b tasks) (down_fits g b) (down_of k b))

    unfoldable pub sound_state : List ℕ → State → Bool
    sound_state states s =
        all_below 16 (λ (t : ℕ). task_sound t (get_or states t 0) (task_of s t))
        && all_below 16 (λ (g : ℕ). gate_sound g (gate_of s g))
