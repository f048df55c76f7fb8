-- "At a task": what a message does there.
use Rattle.std.specs.Prelude.{ℕ, suc, zero, ◌+◌, Bool, true, false, cond, ◌&&◌, not, List, eqb, ltb, get_or, set, replicate, Option, Some, None}
use Rattle.laws.specs.Turns.{up_to}
use Rattle.sets.specs.Sets.{member_of, next_above_of}
use Rattle.numbers.specs.declared.TaskNo.{TaskNo}
use Rattle.table.specs.Tables.{move_of, ready_of, mask_of}
use Rattle.channels.specs.Channels.{no_request, ends_ready}
use Rattle.channels.specs.declared.Request.{Request}
use Rattle.channels.specs.declared.Message.{Message}
use Rattle.channels.specs.declared.Message.TheVariants.{Ready, Lock, Commit, Abort}
use Rattle.state.specs.States.{up_of, at_state, with_mode, with_last, without_front, put_up, put_across}
use Rattle.state.specs.declared.Mode.{Mode}
use Rattle.state.specs.declared.Mode.TheVariants.{Free, Held}
use Rattle.state.specs.declared.Task.{Task}
use Rattle.tasks.specs.declared.Work.{Work}

-- The work of one delivery on its receiver: the task so far, whether all of it is allowed, and the log entries of it.
-- Work on a full channel leaves the channel, and is not allowed.
abbrev pub with : Work → Task → Bool → Work
with w p ok = record { task = p; ok = ok; fired = w.fired; entries = w.entries }

abbrev pub begun : Task → Work
begun p = record { task = p; ok = true; fired = 0; entries = replicate 16 no_request }

abbrev pub excluded : Task → Work
excluded p = record { task = p; ok = false; fired = 0; entries = replicate 16 no_request }

abbrev pub sent_up : Work → ℕ → Message → Work
sent_up w g m = let put = put_up w.task g m in with w put.after (w.ok && put.room)

abbrev pub sent_across : Work → ℕ → Message → Work
sent_across w b m = let put = put_across w.task b m in with w put.after (w.ok && put.room)

-- "the entry is written after the log's last"
abbrev pub entered : Work → Request → Work
entered w r = record { task = w.task; ok = w.ok; fired = w.fired + 1; entries = set w.entries w.fired r }

abbrev pub is_free : Mode → Bool
is_free Free = true
is_free (Held r) = false

abbrev pub held_by : ℕ → Mode → Bool
held_by g Free = false
held_by g (Held r) = eqb r.gate.0 g

-- "to each lower task of the vector, ascending, then to the gate", where b is the task's own number
abbrev pub sent_at : ℕ → Message → ℕ → Work → Work
sent_at mask m y w = cond (member_of mask y) (sent_across w y m) w

unfoldable pub sent_below : ℕ → ℕ → Message → Work → Work
sent_below b mask m w = up_to (sent_at mask m) b w

abbrev pub sent : ℕ → ℕ → ℕ → Message → Work → Work
sent b mask g m w = sent_up (sent_below b mask m w) g m

-- The table's transitions, its count of gates, and the task's own number.
module _ (moves : List ℕ) (gates b : ℕ) where
  -- "A READY isn't added when the newest message in that channel is a READY already"
  abbrev pub announced_at : ℕ → ℕ → Work → Work
  announced_at x g w = cond (ready_of moves b x g && not (ends_ready (up_of w.task g))) (sent_up w g Ready) w

  -- "READY to each gate the task is now ready at, ascending"
  unfoldable pub announced : Work → Work
  announced w = up_to (announced_at w.task.state) gates w

  -- it moves along its transition, is Free and announces itself
  abbrev pub moved_to : Option ℕ → Work → Work
  moved_to None w = w
  moved_to (Some y) w = announced (with w (with_mode (at_state w.task y) Free) w.ok)

  -- ready, with a higher task in the vector: "Held, and LOCK to the next higher one"; ready and highest: the entry,
  -- "COMMIT to each lower task, ascending, then to the gate; it moves along its transition and announces itself"
  abbrev pub accepted : Request → ℕ → Option TaskNo → Work → Work
  accepted r mask (Some c) w = sent_across (with w (with_mode w.task (Held r)) w.ok) c.0 (Lock r)
  accepted r mask None w =
      moved_to (move_of moves b w.task.state r.gate.0) (sent b mask r.gate.0 (Commit r.gate) (entered w r))

  -- The masks of the table's vectors.
  module _ (masks : List ℕ) where
    -- a Free task handles a lock request; not ready: "ABORT to each lower task of the vector, ascending, then to the gate"
    unfoldable pub handled : Request → Work → Work
    handled r w =
        let mask = mask_of masks r.gate.0 r.vector in
        cond (ready_of moves b w.task.state r.gate.0)
        (accepted r mask (next_above_of mask b) w)
        (sent b mask r.gate.0 (Abort r.gate) w)

    -- "The list is handled from the front, for as long as the task is Free": n requests of it
    unfoldable pub list_handled : ℕ → Work → Work
    list_handled zero w = w
    list_handled (suc n) w =
        let p = w.task in
        cond (is_free p.mode) (list_handled n (handled (get_or p.waiting 0 no_request) (with w (without_front p) w.ok))) w

    -- "a Held task puts it last on its waiting list"; a 17th request is excluded
    abbrev pub locked : Task → Request → Mode → Work
    locked p r Free = handled r (begun p)
    locked p r (Held q) = cond (ltb p.count 16) (begun (with_last p r)) (excluded p)

    -- "COMMIT: the task moves along its transition for that gate, is Free, announces itself, then handles its waiting
    -- list"; excluded at a task not Held by that gate, and with no transition for it
    abbrev pub committed : Task → ℕ → Work
    committed p g =
        cond (held_by g p.mode && ready_of moves b p.state g)
        (list_handled p.count (moved_to (move_of moves b p.state g) (begun p)))
        (excluded p)

    -- "ABORT: it is Free without moving or announcing, then handles its waiting list"
    abbrev pub aborted : Task → ℕ → Work
    aborted p g = cond (held_by g p.mode) (list_handled p.count (begun (with_mode p Free))) (excluded p)

    unfoldable pub at_task : Task → Message → Work
    at_task p Ready = excluded p
    at_task p (Lock r) = locked p r p.mode
    at_task p (Commit g) = committed p g.0
    at_task p (Abort g) = aborted p g.0
