-- Announcing changes of the work only what the task has sent to the gates, and whether all is allowed.
use Prim.Native.Nat.{ℕ, suc, zero}
use mathlib.Core.Bool.{Bool, true, false, cond, ◌&&◌, not}
use mathlib.Core.List.{List}
use mathlib.Core.Path.{◌≡◌, refl, ap, ◌∙◌}
use lib.ListN.{get_or}
use Rattle.laws.specs.Turns.{up_to}
use Rattle.table.specs.Tables.{ready_of}
use Rattle.channels.specs.Channels.{empty3, ends_ready}
use Rattle.state.specs.States.{with_all_up}
use Rattle.tasks.specs.Tasks.{with, announced_at, announced}
use Rattle.tasks.specs.Parts.{announced_up_at, announced_up}
use Rattle.tasks.specs.declared.Outgoing.{Outgoing}
use Rattle.tasks.specs.declared.Work.{Work}

-- the work with what the task has sent to the gates put in
abbrev pub joined : Work → Outgoing → Work
joined w a = with w (with_all_up w.task a.up) a.ok

either_joined : (t : Bool) (w : Work) (a c : Outgoing) → cond t (joined w a) (joined w c) ≡ joined w (cond t a c)
either_joined true w a c = refl
either_joined false w a c = refl

module _ (moves : List ℕ) (gates b x : ℕ) where
  turns_joined : (w : Work) (a : Outgoing) (n : ℕ)
      → up_to (announced_at moves gates b x) n (joined w a) ≡ joined w (up_to (announced_up_at moves b x) n a)
  turns_joined w a zero = refl
  turns_joined w a (suc n) =
      let so : Outgoing = up_to (announced_up_at moves b x) n a in
      ap (announced_at moves gates b x n) (turns_joined w a n)
      ∙ either_joined (ready_of moves b x n && not (ends_ready (get_or so.up n empty3))) w _ so

pub announced_apart : (moves : List ℕ) (gates b : ℕ) (w : Work)
    → announced moves gates b w ≡ joined w (announced_up moves gates b w.task.state (record { up = w.task.up; ok = w.ok }))
unfolding announced announced_up
announced_apart moves gates b w =
    turns_joined moves gates b w.task.state w (record { up = w.task.up; ok = w.ok }) gates
