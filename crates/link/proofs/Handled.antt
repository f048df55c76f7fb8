-- A lock request handled at a Free task is the protocol's.
use Rattle.std.specs.Prelude.{Option, Some, None}
use Prim.Native.Nat.{ℕ, ◌<◌}
use mathlib.Core.Bool.{Bool, cond, false, true}
use mathlib.Core.List.{List}
use mathlib.Core.Path.{◌≡◌, ◌∙◌, ap, refl, subst, sym}
use native.Mathlib.Omega.{arith}
use Rattle.sets.specs.Sets.{next_above_of}
use Rattle.numbers.specs.declared.TaskNo.{TaskNo}
use Rattle.table.specs.Tables.{is_move, mask_of, move_of, ready_of}
use Rattle.table.specs.declared.Table.{Table}
use Rattle.channels.specs.declared.Message.TheVariants.{Abort, Commit, Lock}
use Rattle.channels.specs.declared.Request.{Request}
use Rattle.state.specs.States.{with_mode}
use Rattle.state.specs.declared.Gate.{Gate}
use Rattle.state.specs.declared.Mode.TheVariants.{Free, Held}
use Rattle.state.specs.declared.Task.{Task}
use Rattle.tasks.specs.Tasks.{accepted, entered, handled, moved_to, sent, sent_across, with}
use Rattle.tasks.specs.declared.Work.{Work}
use Rattle.machine.specs.Machine.{moved}
use Rattle.protocol.specs.Lines.{Line}
use Rattle.protocol.specs.Steps.{forwarded, result_sent}
use Rattle.protocol.proofs.Agree.{agree_path}
use Rattle.protocol.proofs.Cases.{clash, diff, eq_case, same}
use Rattle.protocol.proofs.Decided.{decide_links, decided_ghost}
use Rattle.protocol.proofs.Invariant.{Ghost, Links}
use Rattle.protocol.proofs.Phases.{idle}
use Rattle.protocol.proofs.Reading.{higher_idle}
use Rattle.protocol.proofs.Tokens.{in_hand}
use Rattle.link.proofs.Shows.{Shows, own_state}
use Rattle.link.proofs.Tables.{Lawful, found_task, plan_of}
use Rattle.link.proofs.Works.{entered_shows, freed, moved_shows, passed_shows, ready_room, sent_shows}
use Rattle.protocol.specs.Steps as step
use Rattle.protocol.specs.Deliveries as protocol

-- a Free task made Free
pub free_same : (x : Line) (b : ℕ) → x.mode b ≡ Free → freed x b ≡ x
free_same x b e = agree_path (record {
  at = λ t. refl;
  mode = λ t. elim (eq_case t b) [ same p f ↦ rw (f, p) (sym e) | diff p f ↦ rw f ];
  waiting = λ t. refl;
  offers = λ g t. refl;
  deal = λ g. refl;
  up = λ t g. refl;
  down = λ g t. refl;
  across = λ a b. refl;
  log = refl;
})

module _ (T : Table) (q : Lawful T) (G : ℕ → Gate) (log : List Request) (b : ℕ) (hb : b < 16) (S : ℕ → Task)
    (w : Work) (x : Line) (s : Shows G log b S w x) (room : w.fired < 16) (h : Ghost) (j : Links (plan_of T) x h)
    (r : Request) (et : h.token r.gate.0 ≡ in_hand r.vector b) (eb : h.phase b ≡ idle) (hg : r.gate.0 < 16) where
  abbrev g : ℕ
  g = r.gate.0

  abbrev v : ℕ
  v = r.vector

  abbrev mask : ℕ
  mask = mask_of T.masks g v

  abbrev ShowsHere : Work → Line → Type 0
  ShowsHere u y = Shows G log b S u y

  -- not ready: ABORT
  refused_shows : ShowsHere (sent b mask g (Abort r.gate) w) (result_sent (plan_of T) x g v b false)
  refused_shows = sent_shows G log b S T q hb h r et eb hg false w x s j

  -- ready, with a higher task: LOCK to it
  forwarded_shows : (c : ℕ) → (plan_of T).next_above g v b ≡ Some c
      → ShowsHere (sent_across (with w (with_mode w.task (Held r)) w.ok) c (Lock r)) (forwarded x g v b c)
  forwarded_shows c e =
      let o = q.right.next_some g v b c e in
      passed_shows G log b S r c (let t = (q.present g v c o.0).task in omega (arith, q.rules.tasks)) w x s
      (j.higher b c o.1 ∙ rw eb (higher_idle c (h.passed_to b)))

  -- ready and highest: the entry, COMMIT, the move
  fired_shows : (to : Option ℕ) → is_move to ≡ true
      → ShowsHere (moved_to T.moves T.gates b to (sent b mask g (Commit r.gate) (entered w r)))
      (step.moved (plan_of T) (step.entered (result_sent (plan_of T) x g v b true) g v) b (moved w.task.state to))
  fired_shows None e = clash (sym e)
  fired_shows (Some y) e =
      let logged : Line = step.entered x g v in
      let j₁ : Links (plan_of T) logged h =
      record { gate = j.gate; task = j.task; higher = j.higher; lower = j.lower; own = j.own; pair = j.pair } in
      let decided : Line = result_sent (plan_of T) logged g v b true in
      let j₂ : Links (plan_of T) decided (decided_ghost (plan_of T) h g v b true) = decide_links (plan_of T) logged h j₁ g v b true et eb in
      let s₁ = entered_shows G log b S r w x s room in
      let s₂ = sent_shows G log b S T q hb h r et eb hg true (entered w r) logged s₁ j₁ in
      let s₃ = moved_shows G log b S T q hb y (sent b mask g (Commit r.gate) (entered w r)) decided s₂
      (ready_room T q decided (decided_ghost (plan_of T) h g v b true) j₂ b) in
      let free : decided.mode b ≡ Free = (j.task b).mode_is ∙ rw eb in
      subst (λ (a : Line). ShowsHere (moved_to T.moves T.gates b (Some y) (sent b mask g (Commit r.gate) (entered w r))) (step.moved (plan_of T) a b y))
      (free_same decided b free) s₃

  accepted_shows : is_move (move_of T.moves b w.task.state g) ≡ true → (f : Option TaskNo) → next_above_of mask b ≡ f
      → ShowsHere (accepted T.moves T.gates b r mask f w) (protocol.accepted (plan_of T) x g v b (found_task f))
  accepted_shows m None e = rw (own_state G log b S w x s) (fired_shows (move_of T.moves b w.task.state g) m)
  accepted_shows m (Some c) e = forwarded_shows c.0 (ap found_task e)

  pub handled_shows : ShowsHere (handled T.moves T.gates b T.masks r w) (protocol.handled (plan_of T) x b r)
  unfolding handled
  handled_shows = rw (own_state G log b S w x s) (turn (ready_of T.moves b w.task.state g) refl)
    where
      turn : (c : Bool) → ready_of T.moves b w.task.state g ≡ c
          → ShowsHere (cond c (accepted T.moves T.gates b r mask (next_above_of mask b) w) (sent b mask g (Abort r.gate) w))
          (protocol.handled_by (plan_of T) x g v b c)
      turn true e = accepted_shows e (next_above_of mask b) refl
      turn false e = refused_shows
