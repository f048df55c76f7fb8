-- The invariant of the protocol: LINKS, MEANING and REST. docs/LAW.md says why each line is there.
use Rattle.std.specs.Prelude.{Option, None, Some}
use Prim.Native.Nat.{ℕ, ◌<◌, ◌≤◌}
use mathlib.Core.Bool.{Bool, true}
use mathlib.Core.List.{List, []}
use mathlib.Core.Logic.{◌≢◌}
use mathlib.Core.Path.{◌≡◌}
use Rattle.channels.specs.declared.Request.{Request}
use Rattle.channels.specs.declared.Message.{Message}
use Rattle.state.specs.declared.Mode.{Mode}
use Rattle.state.specs.declared.Deal.{Deal}
use Rattle.protocol.specs.Plans.{Plan}
use Rattle.protocol.specs.Lines.{Line}
use Rattle.protocol.specs.Runs.{Legal}
use Rattle.protocol.proofs.Tokens.{Token, home, in_hand, deal_of, result_by, up_messages, down_messages, vectors_of, queued_at, passed_by, undecided_by, covers, TokenRight}
use Rattle.protocol.proofs.Phases.{Phase, idle, mode_of, higher_messages, lower_messages, undecided_for, passed_for, commits, PhaseRight, HeldReady, replay_of}

-- what the line does not store: it is whatever makes the invariant hold
pub record Ghost : Type 0 where
  pub token : ℕ → Token  -- gate
  pub phase : ℕ → Phase  -- task
  pub passed_to : ℕ → Option ℕ  -- task: to whom the LOCK that it passed on travels
  pub ready_before : ℕ → ℕ → Bool  -- task, gate: a READY stands before the task's result
  pub ready_last : ℕ → ℕ → Bool  -- task, gate: the newest message is a READY
  pub replayed : ℕ → ℕ  -- task: its state in the replay of the log

-- the table's searches do what they are for, and who is in a vector is there
pub record PlanRight (P : Plan) : Type 0 where
  pub task_there : (g v t : ℕ) → P.holds g v t ≡ true → t < P.tasks
  pub gate_there : (g v t : ℕ) → P.holds g v t ≡ true → g < P.gates
  pub next_some : (g v b c : ℕ) → P.next_above g v b ≡ Some c
      → (P.holds g v c ≡ true) × (b < c) × ((t : ℕ) → P.holds g v t ≡ true → b < t → c ≤ t)
  pub next_none : (g v b : ℕ) → P.next_above g v b ≡ None → (t : ℕ) → P.holds g v t ≡ true → t ≤ b
  pub fitting_none : (g : ℕ) (offers : ℕ → Bool) → P.fitting g offers ≡ None
      → (v b : ℕ) → P.holds g v b ≡ true → ((t : ℕ) → P.holds g v t ≡ true → offers t ≡ true) → ⊥
  pub lowest_in : (g v : ℕ) (offers : ℕ → Bool) → P.fitting g offers ≡ Some v → P.holds g v (P.lowest g v) ≡ true
  pub lowest_low : (g v : ℕ) (offers : ℕ → Bool) → P.fitting g offers ≡ Some v
      → (t : ℕ) → P.holds g v t ≡ true → P.lowest g v ≤ t

module _ (P : Plan) where
  pub record GateLinks (g : ℕ) (deal : Deal) (token : Token) : Type 0 where
    pub deal_is : deal ≡ deal_of token
    pub token_right : TokenRight P g token

  pub record TaskLinks (t : ℕ) (mode : Mode) (phase : Phase) : Type 0 where
    pub mode_is : mode ≡ mode_of phase
    pub phase_right : PhaseRight P t phase

  pub record PairLinks (t g : ℕ) (waiting : List Request) (up down : List Message) (token : Token) (phase : Phase)
      (passed_to : Option ℕ) (before last : Bool) : Type 0 where
    pub up_is : up ≡ up_messages g (result_by t token) before last
    pub down_is : down ≡ down_messages g t token
    pub waiting_is : vectors_of g waiting ≡ queued_at t token
    pub undecided_is : undecided_for g phase ≡ undecided_by P g t token
    pub passed_is : passed_for g phase passed_to ≡ passed_by t token

  -- the same with another token, phase and passed_to than the ghost state has; and with its own
  abbrev pub PairBy : Line → Ghost → ℕ → ℕ → Token → Phase → Option ℕ → Type 0
  PairBy s h t g token phase passed_to =
      PairLinks t g (s.waiting t) (s.up t g) (s.down g t) token phase passed_to (h.ready_before t g) (h.ready_last t g)

  abbrev pub PairAt : Line → Ghost → ℕ → ℕ → Type 0
  PairAt s h t g = PairBy s h t g (h.token g) (h.phase t) (h.passed_to t)

  -- LINKS: what modes, lists and channels hold is a function of the ghost state
  pub record Links (s : Line) (h : Ghost) : Type 0 where
    pub gate : (g : ℕ) → GateLinks g (s.deal g) (h.token g)
    pub task : (t : ℕ) → TaskLinks t (s.mode t) (h.phase t)
    pub higher : (a b : ℕ) → a < b → s.across a b ≡ higher_messages b (h.passed_to a) (h.phase a)
    pub lower : (u a : ℕ) → a < u → s.across u a ≡ lower_messages u (h.phase a)
    pub own : (t : ℕ) → s.across t t ≡ []
    pub pair : (t g : ℕ) → PairAt s h t g

  -- no offer is lost: one of four reasons why gate g will come to know that t is ready there
  pub data Covered (t g : ℕ) (offer last : Bool) (token : Token) (phase : Phase) : Type 0 where
    by_ready : last ≡ true → Covered t g offer last token phase
    by_offer : offer ≡ true → result_by t token ≡ None → Covered t g offer last token phase
    by_token : covers P t g token ≡ true → Covered t g offer last token phase
    by_commit : commits phase ≡ true → Covered t g offer last token phase

  -- MEANING: what the tasks' states have to do with it
  pub record Meaning (s : Line) (h : Ghost) : Type 0 where
    pub held_ready : (t : ℕ) → HeldReady P t (s.at t) (h.phase t)
    pub replayed_is : (t : ℕ) → h.replayed t ≡ replay_of P t (s.at t) (h.phase t)
    pub legal : Legal P s.log h.replayed
    pub covered : (t g : ℕ) → P.ready t (s.at t) g ≡ true → Covered t g (s.offers g t) (h.ready_last t g) (h.token g) (h.phase t)

  -- no vector of gate g has all its tasks in the offers
  abbrev pub NoneFits : (ℕ → Bool) → ℕ → Type 0
  NoneFits offers g = (v b : ℕ) → P.holds g v b ≡ true → ((t : ℕ) → P.holds g v t ≡ true → offers t ≡ true) → ⊥

  -- between the requests of b's waiting list: REST but for b's own list
  pub record Busy (s : Line) (h : Ghost) (b : ℕ) : Type 0 where
    pub links : Links s h
    pub meaning : Meaning s h
    pub none_in_hand : (g v t : ℕ) → h.token g ≢ in_hand v t
    pub none_waits_lem : (t : ℕ) → t ≢ b → h.phase t ≡ idle → s.waiting t ≡ []
    pub searched : (g : ℕ) → h.token g ≡ home → NoneFits (s.offers g) g

  -- between deliveries
  pub record Invariant (s : Line) : Type 0 where
    pub ghost : Ghost
    pub links : Links s ghost
    pub meaning : Meaning s ghost
    pub none_in_hand : (g v t : ℕ) → ghost.token g ≢ in_hand v t
    pub none_waits_lem : (t : ℕ) → ghost.phase t ≡ idle → s.waiting t ≡ []
    pub searched : (g : ℕ) → ghost.token g ≡ home → NoneFits (s.offers g) g
