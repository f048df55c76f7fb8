-- The line as it stands: the state's parts as functions of numbers, with lists that have no bound.
use Rattle.std.specs.Prelude.{ℕ, Bool, true, false, List, [], ◌∷◌}
use Rattle.channels.specs.declared.Request.{Request}
use Rattle.channels.specs.declared.Message.{Message}
use Rattle.channels.specs.declared.Message.TheVariants.{Ready, Lock, Commit, Abort}
use Rattle.state.specs.declared.Mode.{Mode}
use Rattle.state.specs.declared.Mode.TheVariants.{Free, Held}
use Rattle.state.specs.declared.Deal.{Deal}
use Rattle.state.specs.declared.Deal.TheVariants.{Idle}
use Rattle.protocol.specs.Plans.{Plan}

pub record Line : Type 0 where
  pub at : ℕ → ℕ  -- task: its state
  pub mode : ℕ → Mode  -- task
  pub waiting : ℕ → List Request  -- task
  pub offers : ℕ → ℕ → Bool  -- gate, task
  pub deal : ℕ → Deal  -- gate
  pub up : ℕ → ℕ → List Message  -- from task, to gate; the oldest first, as in each channel
  pub down : ℕ → ℕ → List Message  -- from gate, to task
  pub across : ℕ → ℕ → List Message  -- from task, to task
  pub log : List Request  -- the newest entry first

-- a request, a message and a mode by the numbers that they name
abbrev pub request : ℕ → ℕ → Request
request g v = record { gate = record { 0 = g }; vector = v }

abbrev pub lock : ℕ → ℕ → Message
lock g v = Lock (request g v)

-- "COMMIT and ABORT the number of the gate whose negotiation they end"
abbrev pub result : Bool → ℕ → Message
result true g = Commit (record { 0 = g })
result false g = Abort (record { 0 = g })

abbrev pub held : ℕ → ℕ → Mode
held g v = Held (request g v)

-- a READY, or nothing
abbrev pub ready_if : Bool → List Message
ready_if true = Ready ∷ []
ready_if false = []

-- "All tasks at their start states and Free, gates Idle with no offers .. Each task .. has sent READY to each gate it
-- is ready at."
abbrev pub fresh : Plan → Line
fresh P = record {
  at = P.start;
  mode = λ t. Free;
  waiting = λ t. [];
  offers = λ g t. false;
  deal = λ g. Idle;
  up = λ t g. ready_if (P.ready t (P.start t) g);
  down = λ g t. [];
  across = λ a b. [];
  log = [];
}
