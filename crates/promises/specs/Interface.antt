-- The promises of the interface: what the `ensures` of each function say of a result r, and of the bytes of each lent buffer
-- when it returns.
use Rattle.std.specs.Prelude.{ℕ, Bool, List, ◌≡◌}
use Rattle.table.specs.declared.Table.{Table}
use Rattle.reader.specs.Reader.{read_of}
use Rattle.reader.specs.declared.Loaded.{Loaded}
use Rattle.schedule.specs.Schedules.{schedule_of}
use Rattle.schedule.specs.declared.Schedule.{Schedule}
use Rattle.state.specs.declared.State.{State}
use Rattle.fresh.specs.Fresh.{fresh}
use Rattle.fresh.specs.declared.Started.{Started}
use Rattle.delivery.specs.Delivery.{given_back, sound_for, delivered}
use Rattle.delivery.specs.declared.Delivered.{Delivered}
use Rattle.quiet.specs.Quiet.{quiet}
use Rattle.text.specs.Text.{typed}
use Rattle.printed.specs.Printed.{printed}
use Rattle.hunavosk.specs.Calls.{called}

-- reader::read
abbrev pub TableRead : List ℕ → Loaded → Type 0
TableRead file r = r ≡ read_of file

-- schedule::read
abbrev pub ScheduleRead : List ℕ → Schedule → Type 0
ScheduleRead file r = r ≡ schedule_of file

-- fresh::fresh
abbrev pub StartedFresh : Table → Started → Type 0
StartedFresh table r = r ≡ fresh table

-- delivery::is_sound
abbrev pub FoundSound : Table → State → ℕ → Bool → Type 0
FoundSound table s length r = r ≡ sound_for table s length

-- delivery::deliver
pub record Delivers (table : Table) (s : State) (log : List ℕ) (from to : ℕ) (r : Delivered) (log_after : List ℕ) : Type 0 where
  pub state : r ≡ given_back (delivered table s log from to)
  pub bytes : log_after ≡ (delivered table s log from to).log

-- quiet::quiet
abbrev pub FoundQuiet : State → Bool → Type 0
FoundQuiet s r = r ≡ quiet s

-- printed::print
pub record Prints (table schedule log text : List ℕ) (r : ℕ) (log_after text_after : List ℕ) : Type 0 where
  pub bytes : text_after ≡ (typed (printed table schedule log).text (record { bytes = text; at = 0 })).bytes
  pub count : r ≡ (typed (printed table schedule log).text (record { bytes = text; at = 0 })).at
  pub entries : log_after ≡ (printed table schedule log).log

-- hunavosk::hunavosk_desk
pub record Answers (table schedule log text : List ℕ) (r : ℕ) (log_after text_after : List ℕ) : Type 0 where
  pub count : r ≡ (called table schedule log text).count
  pub entries : log_after ≡ (called table schedule log text).log
  pub bytes : text_after ≡ (called table schedule log text).text
