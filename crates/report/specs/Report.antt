-- What program desk prints.
use Rattle.std.specs.Prelude.{ℕ, ◌+◌, ◌*◌, Bool, cond, List, ◌++◌, get_or}
use Prim.Native.String.{String}
use Rattle.table.specs.Tables.{mask_of}
use Rattle.state.specs.States.{task_of}
use Rattle.state.specs.declared.State.{State}
use Rattle.text.specs.Text.{bytes_of, decimal, joined}

-- a word and a number
abbrev pub field : String → ℕ → List ℕ
field word n = bytes_of word ++ decimal n

-- "A refused file prints `answer N at P`."
abbrev pub refusal : ℕ → ℕ → List ℕ
refusal number place = field "answer " number ++ (field " at " place ++ bytes_of "\n")

-- "answer, deliveries done, log entries, whether nothing is undelivered"
abbrev pub quiet_word : Bool → List ℕ
quiet_word quiet = cond quiet (bytes_of " quiet yes\n") (bytes_of " quiet no\n")

abbrev pub summary : ℕ → ℕ → ℕ → Bool → List ℕ
summary number made logged quiet =
    field "answer " number ++ (field " delivered " made ++ (field " log " logged ++ quiet_word quiet))

-- "one line for each entry with gate, vector, mask"
abbrev pub entry_line : List ℕ → List ℕ → ℕ → List ℕ
entry_line masks log i =
    field "fire gate " (get_or log (i * 2) 0)
    ++ (field " vector " (get_or log (i * 2 + 1) 0)
    ++ (field " tasks " (mask_of masks (get_or log (i * 2) 0) (get_or log (i * 2 + 1) 0)) ++ bytes_of "\n"))

abbrev pub entry_lines : List ℕ → List ℕ → ℕ → List ℕ
entry_lines masks log logged = joined (entry_line masks log) logged

-- "the task states in order"
abbrev pub state_of : State → ℕ → List ℕ
state_of s t = field " " (task_of s t).state

abbrev pub states : State → ℕ → List ℕ
states s tasks = joined (state_of s) tasks

abbrev pub states_line : State → ℕ → List ℕ
states_line s tasks = bytes_of "state" ++ (states s tasks ++ bytes_of "\n")

-- the three kinds of line
unfoldable pub report : List ℕ → ℕ → ℕ → ℕ → Bool → State → List ℕ → List ℕ
report masks tasks number made quiet s log =
    summary number made s.logged quiet ++ (entry_lines masks log s.logged ++ states_line s tasks)
