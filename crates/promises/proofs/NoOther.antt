-- No other answer keeps a promise: whatever a promise says is equal to a meaning of the inputs, two answers to the same inputs
-- are equal to each other.
use Prim.Native.Nat.{ℕ}
use mathlib.Core.Bool.{Bool}
use mathlib.Core.List.{List}
use mathlib.Core.Path.{◌≡◌, sym, ◌∙◌}
use Rattle.table.specs.declared.Table.{Table}
use Rattle.reader.specs.declared.Loaded.{Loaded}
use Rattle.schedule.specs.declared.Schedule.{Schedule}
use Rattle.state.specs.declared.State.{State}
use Rattle.fresh.specs.declared.Started.{Started}
use Rattle.delivery.specs.declared.Delivered.{Delivered}
use Rattle.promises.specs.Interface.{TableRead, ScheduleRead, StartedFresh, FoundSound, Delivers, FoundQuiet, Prints, Answers}

pub no_other : {A : Type 0} {meaning one other : A} → one ≡ meaning → other ≡ meaning → one ≡ other
no_other p q = p ∙ sym q

pub no_other_table : (file : List ℕ) (a b : Loaded) → TableRead file a → TableRead file b → a ≡ b
no_other_table file a b p q = no_other p q

pub no_other_schedule : (file : List ℕ) (a b : Schedule) → ScheduleRead file a → ScheduleRead file b → a ≡ b
no_other_schedule file a b p q = no_other p q

pub no_other_fresh : (table : Table) (a b : Started) → StartedFresh table a → StartedFresh table b → a ≡ b
no_other_fresh table a b p q = no_other p q

pub no_other_sound : (table : Table) (s : State) (length : ℕ) (a b : Bool) → FoundSound table s length a
    → FoundSound table s length b → a ≡ b
no_other_sound table s length a b p q = no_other p q

-- the state, the answer and every byte of the log
pub no_other_delivery : (table : Table) (s : State) (log : List ℕ) (from to : ℕ) (a b : Delivered) (x y : List ℕ)
    → Delivers table s log from to a x → Delivers table s log from to b y → (a ≡ b) × (x ≡ y)
no_other_delivery table s log from to a b x y p q = (no_other p.state q.state, no_other p.bytes q.bytes)

pub no_other_quiet : (s : State) (a b : Bool) → FoundQuiet s a → FoundQuiet s b → a ≡ b
no_other_quiet s a b p q = no_other p q

-- the count, and every byte of the log and of the text's buffer
pub no_other_print : (table schedule log text : List ℕ) (m n : ℕ) (x y u v : List ℕ)
    → Prints table schedule log text m x u → Prints table schedule log text n y v → (m ≡ n) × (x ≡ y) × (u ≡ v)
no_other_print table schedule log text m n x y u v p q =
    (no_other p.count q.count, no_other p.entries q.entries, no_other p.bytes q.bytes)

-- the same of the library's call
pub no_other_call : (table schedule log text : List ℕ) (m n : ℕ) (x y u v : List ℕ)
    → Answers table schedule log text m x u → Answers table schedule log text n y v → (m ≡ n) × (x ≡ y) × (u ≡ v)
no_other_call table schedule log text m n x y u v p q =
    (no_other p.count q.count, no_other p.entries q.entries, no_other p.bytes q.bytes)
