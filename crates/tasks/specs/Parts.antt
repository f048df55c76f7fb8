-- Announcing on what the task has sent to the gates alone, and parts of the rules that have a function of their own. The
-- interface does not speak of them.
use Rattle.std.specs.Prelude.{ℕ, cond, ◌&&◌, not, List, ltb, get_or, set}
use Rattle.laws.specs.Turns.{up_to}
use Rattle.sets.specs.Sets.{next_above_of}
use Rattle.table.specs.Tables.{ready_of}
use Rattle.channels.specs.Channels.{empty3, put3, ends_ready}
use Rattle.channels.specs.declared.Message.TheVariants.{Ready, Abort}
use Rattle.channels.specs.declared.Request.{Request}
use Rattle.state.specs.States.{with_last}
use Rattle.state.specs.declared.Task.{Task}
use Rattle.tasks.specs.Tasks.{begun, excluded, sent, accepted}
use Rattle.tasks.specs.declared.Outgoing.{Outgoing}
use Rattle.tasks.specs.declared.Work.{Work}

abbrev pub announced_up_at : List ℕ → ℕ → ℕ → ℕ → Outgoing → Outgoing
announced_up_at moves b x g a =
    cond (ready_of moves b x g && not (ends_ready (get_or a.up g empty3)))
    (record { up = set a.up g (put3 (get_or a.up g empty3) Ready); ok = a.ok && ltb (get_or a.up g empty3).count 3 })
    a

unfoldable pub announced_up : List ℕ → ℕ → ℕ → ℕ → Outgoing → Outgoing
announced_up moves gates b x a = up_to (announced_up_at moves b x) gates a

-- a Held task lets a request wait
abbrev pub waits : Task → Request → Work
waits p r = cond (ltb p.count 16) (begun (with_last p r)) (excluded p)

-- a Free task handles a request for a vector of this mask
abbrev pub handled_by : List ℕ → ℕ → ℕ → Request → ℕ → Work → Work
handled_by moves gates b r mask w =
    cond (ready_of moves b w.task.state r.gate.0)
    (accepted moves gates b r mask (next_above_of mask b) w)
    (sent b mask r.gate.0 (Abort r.gate) w)
