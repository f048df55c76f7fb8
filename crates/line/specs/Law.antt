-- What the third demand says of every state that a line reaches.
use Rattle.std.specs.Prelude.{ℕ, ◌*◌, ◌≤◌, true, false, List, ◌≢◌, ◌⊎◌, ◌≡◌, get_or, length, Some, Ok, Err}
use Rattle.answers.specs.declared.Refusal.TheVariants.{LogFull, Unsound, Excluded}
use Rattle.table.specs.Tables.{move_of}
use Rattle.table.specs.declared.Table.{Table}
use Rattle.channels.specs.declared.Message.{Message}
use Rattle.channels.specs.declared.Message.TheVariants.{Commit}
use Rattle.state.specs.States.{task_of, gate_of, across_of}
use Rattle.state.specs.declared.Mode.TheVariants.{Free}
use Rattle.state.specs.declared.State.{State}
use Rattle.delivery.specs.Delivery.{delivered}
use Rattle.quiet.specs.Quiet.{quiet}
use Rattle.machine.specs.Machine.{starts, enabled, legal, replay}
use Rattle.protocol.specs.Counts.{dealing}
use Rattle.line.specs.Contents.{entries_of}
use Rattle.line.specs.Tokens.{tokens}

-- message m travels from task a to task b
abbrev pub Travels : State → ℕ → ℕ → Message → Type 0
Travels s a b m = ((across_of (task_of s a) b).count ≢ 0) × ((across_of (task_of s a) b).first ≡ m)

-- A table, the bytes of the log at the start, and the state and log that are reached.
module _ (T : Table) (before : List ℕ) (s : State) (log : List ℕ) where
  -- the states of the tasks in the replay of the log
  abbrev pub replayed : ℕ → ℕ
  replayed = replay T (starts T) (entries_of s.logged log)

  pub record Law : Type 0 where
    -- "the log is a legal run of the simple machine in which all tasks of a vector move together"; the count is backed
    -- by entries, and no byte behind them has changed
    pub is_legal : legal T (starts T) (entries_of s.logged log) ≡ true
    pub backed : s.logged * 2 ≤ length log
    pub long : length log ≡ length before
    pub behind : (i : ℕ) → s.logged * 2 ≤ i → get_or log i 0 ≡ get_or before i 0
    -- "the stated queue sizes are never too small", nor is anything else met that 11 or 12 names: "Demand 3 includes that
    -- neither occurs after Fresh"
    pub allowed : (from to : ℕ) → (let a = (delivered T s log from to).answer in (a ≢ (Err Unsound)) × (a ≢ (Err Excluded)))
    -- "when no message is undelivered, no task is held and no vector has all its tasks ready"; nor does a request wait
    pub none_held : quiet s ≡ true → (t : ℕ) → (task_of s t).mode ≡ Free
    pub none_waits : quiet s ≡ true → (t : ℕ) → (task_of s t).count ≡ 0
    pub none_ready : quiet s ≡ true → (g v : ℕ) → enabled T (λ t. (task_of s t).state) g v ≡ false
    -- "each task's stored state is its state in that replay, unless a COMMIT travels to it; then it is one move behind"
    pub exact : (t : ℕ) → ((a g : ℕ) → Travels s a t (Commit (record { 0 = g })) → ⊥) → replayed t ≡ (task_of s t).state
    pub one_behind : (t a g : ℕ) → Travels s a t (Commit (record { 0 = g }))
        → move_of T.moves t (task_of s t).state g ≡ Some (replayed t)
    pub one_commit : (t a b g h : ℕ) → Travels s a t (Commit (record { 0 = g })) → Travels s b t (Commit (record { 0 = h }))
        → (a ≡ b) × (g ≡ h)
    -- "LOCKs of gate g, travelling or waiting, plus results on the way to g, number 1 while g is Dealing and 0 while it
    -- is Idle"
    pub one_token : (g : ℕ) → tokens s g ≡ dealing (gate_of s g).deal
    -- where a message is undelivered some delivery is made, or refused for want of room in the log alone
    pub live : quiet s ≡ false → (from to : ℕ) × (let a = (delivered T s log from to).answer in (a ≡ Ok tt) ⊎ (a ≡ Err LogFull))
