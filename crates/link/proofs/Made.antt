-- What becomes of a message that is there: it is delivered and the protocol's invariant holds again, or the log is full.
use Rattle.std.specs.Prelude.{Ok, Err}
use Prim.Native.Nat.{ℕ, ◌*◌, ◌+◌, ◌-◌, ◌/◌, ◌<◌, ◌≤◌}
use mathlib.Core.Bool.{Bool, cond, false, true}
use mathlib.Core.List.{List}
use mathlib.Core.Path.{◌≡◌, ◌∙◌, ap, refl, subst, sym}
use native.Mathlib.Omega.{arith}
use lib.Dec.{ltb}
use lib.ListN.{length}
use borrow.Author.Tests.{ltb-false}
use Rattle.answers.specs.declared.Refusal.TheVariants.{LogFull}
use Rattle.table.specs.declared.Table.{Table}
use Rattle.channels.specs.declared.Request.{Request}
use Rattle.state.specs.States.{gate_of, task_of, with_gate, with_task}
use Rattle.state.specs.declared.Gate.{Gate}
use Rattle.state.specs.declared.State.{State}
use Rattle.state.specs.declared.Task.{Task}
use Rattle.delivery.specs.Delivery.{Outcome, refused, settled_at_gate, settled_at_task, with_log}
use Rattle.kept.proofs.Ends.{done_at_task}
use Rattle.protocol.specs.Lines.{Line}
use Rattle.protocol.specs.Plans.{changed}
use Rattle.protocol.proofs.Invariant.{Invariant}
use Rattle.link.proofs.AtGate.{Searched}
use Rattle.link.proofs.Entries.{written_entries}
use Rattle.link.proofs.Frame.{gate_changed, task_changed}
use Rattle.link.proofs.Shows.{Shows}
use Rattle.link.proofs.Tables.{plan_of}
use Rattle.link.proofs.View.{line_of, line_with, newest_first}
use Rattle.tasks.specs.declared.Work as task
use Rattle.gates.specs.declared.Work as gate

module _ (T : Table) (s : State) (log : List ℕ) where
  pub data Made (o : Outcome) : Type 0 where
    done : o.answer ≡ Ok tt → Invariant (plan_of T) (line_of o.state o.log) → Made o
    full : o ≡ refused s log (Err LogFull) → Made o

  -- work at task b, where popped is the state without the message
  pub made_at_task : (popped : State) (b : ℕ) (hb : b < 16) (w : task.Work) (x : Line) → length popped.tasks ≡ 16
      → s.logged * 2 ≤ length log
      → Shows (gate_of popped) (newest_first s.logged log) b (task_of popped) w x
      → Invariant (plan_of T) x → Made (settled_at_task s popped log b w)
  made_at_task popped b hb w x z fits r i = rw r.good (turn (ltb (length log / 2 - s.logged) w.fired) refl)
    where
      turn : (c : Bool) → ltb (length log / 2 - s.logged) w.fired ≡ c → Made (cond c (refused s log (Err LogFull)) (done_at_task s popped log b w))
      turn true e = full refl
      turn false e =
          let room = ltb-false (length log / 2 - s.logged) w.fired e in
          done refl (subst (λ (y : Line). Invariant (plan_of T) y) (sym
          (ap (λ (f : ℕ → Task). line_with f (gate_of popped) (newest_first (s.logged + w.fired) (done_at_task s popped log b w).log))
          (task_changed popped b w.task (omega arith))
          ∙ ap (λ (l : List Request). line_with (changed (task_of popped) b w.task) (gate_of popped) l)
          (written_entries s.logged w.entries log w.fired (omega arith))
          ∙ r.is)) i)

  -- work at gate g, where the sender t becomes p
  pub made_at_gate : (t g : ℕ) (p : Task) (w : gate.Work) (x : Line) → t < length s.tasks → g < length s.gates
      → Searched (changed (task_of s) t p) (gate_of s) (newest_first s.logged log) g w x
      → Invariant (plan_of T) x → Made (with_log log (settled_at_gate s (with_task s t p) g w))
  made_at_gate t g p w x ht hg r i =
      rw r.good (done refl (subst (λ (y : Line). Invariant (plan_of T) y) (sym
      (ap (λ (f : ℕ → Task). line_with f (gate_of (with_gate s g w.gate)) (newest_first s.logged log)) (task_changed s t p ht)
      ∙ ap (λ (f : ℕ → Gate). line_with (changed (task_of s) t p) f (newest_first s.logged log)) (gate_changed s g w.gate hg)
      ∙ r.is)) i))
