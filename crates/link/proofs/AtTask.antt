-- A message at a task is the protocol's: a LOCK handled or put last on the list, a result and the list behind it.
use Rattle.std.specs.Prelude.{Option, Some, None}
use Prim.Native.Nat.{ℕ, ◌+◌, ◌<◌, ◌≤◌}
use mathlib.Core.Bool.{Bool, cond, false, true}
use mathlib.Core.List.{List, [], ◌++◌, ◌∷◌}
use mathlib.Core.Path.{◌≡◌, ◌∙◌, ap, refl, subst, sym}
use native.Mathlib.Numerals.{add-one}
use native.Mathlib.Omega.{arith}
use lib.ListN.{length, length-append, length-set, set}
use lib.Seq.{take-suc-set}
use borrow.Author.Tests.{lt-ltb}
use Rattle.table.specs.Tables.{is_move, move_of, ready_of}
use Rattle.table.specs.declared.Table.{Table}
use Rattle.channels.specs.declared.Request.{Request}
use Rattle.state.specs.States.{with_mode, with_waiting}
use Rattle.state.specs.declared.Gate.{Gate}
use Rattle.state.specs.declared.Mode.{Mode}
use Rattle.state.specs.declared.Mode.TheVariants.{Free, Held}
use Rattle.state.specs.declared.Task.{Task}
use Rattle.tasks.specs.Tasks.{begun, is_free, list_handled, locked, moved_to}
use Rattle.tasks.specs.Parts.{waits}
use Rattle.tasks.specs.declared.Work.{Work}
use Rattle.tasks.proofs.Fired.{moved_fired}
use Rattle.machine.specs.Machine.{moved}
use Rattle.protocol.specs.Lines.{Line}
use Rattle.protocol.specs.Steps.{lock_taken_across, released, with_list}
use Rattle.protocol.proofs.Agree.{agree_path}
use Rattle.protocol.proofs.AtTask.{freed_busy}
use Rattle.protocol.proofs.Cases.{clash, eqb_same}
use Rattle.protocol.proofs.Invariant.{Ghost, Invariant, Links}
use Rattle.protocol.proofs.Phases.{decided}
use Rattle.protocol.proofs.Reading.{free_of}
use Rattle.protocol.proofs.Room.{waiting_room}
use Rattle.protocol.proofs.Tokens.{in_hand}
use Rattle.link.proofs.Frame.{swap_kept, swap_part}
use Rattle.link.proofs.Handled.{handled_shows}
use Rattle.link.proofs.Lists.{list_shows, wait_length}
use Rattle.link.proofs.Shows.{Shows, own_mode, own_state, own_waiting}
use Rattle.link.proofs.Tables.{Lawful, plan_of}
use Rattle.link.proofs.View.{across_list, up_list, requests_of}
use Rattle.link.proofs.Works.{freed_shows, moved_shows, ready_room}
use Rattle.protocol.specs.Steps as step
use Rattle.protocol.specs.Deliveries as protocol

-- task b Free again after a result of gate g, moved by a COMMIT
abbrev pub freed_work : Table → ℕ → Task → ℕ → Bool → Work
freed_work T b p g true = moved_to T.moves T.gates b (move_of T.moves b p.state g) (begun p)
freed_work T b p g false = begun (with_mode p Free)

-- b's list with a request put last
waits_shows : (G : ℕ → Gate) (log : List Request) (b : ℕ) (S : ℕ → Task) (p : Task) (x : Line) (r : Request) → Shows G log b S (begun p) x
    → p.count < 16 → Shows G log b S (waits p r) (with_list x b (x.waiting b ++ r ∷ []))
waits_shows G log b S p x r s room =
    let q : Task = with_waiting p (p.count + 1) (set p.waiting p.count r) in
    let z = s.fit.sized in
    let longer : requests_of q ≡ requests_of p ++ r ∷ [] =
    rw add-one (take-suc-set p.waiting p.count r (omega (arith, z.waiting))) in
    rw (lt-ltb p.count 16 room) (record {
      good = refl;
      fit = record {
        sized = record { waiting = simp length-set z.waiting; up = z.up; across = z.across };
        few = (let y : p.count + 1 ≤ 16 = omega arith in y);
      };
      long = refl;
      is = agree_path (record {
        at = swap_kept (λ p. p.state) S b p q refl;
        mode = swap_kept (λ p. p.mode) S b p q refl;
        waiting = swap_part requests_of S b p q _ (longer ∙ ap (λ l. l ++ r ∷ []) (sym (own_waiting G log b S (begun p) x s)));
        offers = λ g t. refl;
        deal = λ g. refl;
        up = λ y g. swap_kept (λ p. up_list p g) S b p q refl y;
        down = λ g t. refl;
        across = λ y c. swap_kept (λ p. across_list p c) S b p q refl y;
        log = refl;
      }) ∙ ap (λ (y : Line). with_list y b (x.waiting b ++ r ∷ [])) s.is;
    })

module _ (T : Table) (q : Lawful T) (G : ℕ → Gate) (log : List Request) (b : ℕ) (hb : b < 16) (S : ℕ → Task) (p : Task) where
  abbrev ShowsHere : Work → Line → Type 0
  ShowsHere w x = Shows G log b S w x

  -- a LOCK at b, handled or put last on the list
  pub locked_shows : (r : Request) (x : Line) (h : Ghost) → ShowsHere (begun p) x → Links (plan_of T) x h
      → h.token r.gate.0 ≡ in_hand r.vector b → r.gate.0 < 16 → Invariant (plan_of T) (protocol.locked (plan_of T) x b r)
      → ShowsHere (locked T.moves T.gates b T.masks p r p.mode) (protocol.locked (plan_of T) x b r)
  locked_shows r x h s j et hg i =
      subst (λ (m : Mode). Invariant (plan_of T) (either m) → ShowsHere (locked T.moves T.gates b T.masks p r p.mode) (either m))
      (sym (own_mode G log b S (begun p) x s)) (turn p.mode refl) i
    where
      either : Mode → Line
      either m = cond (is_free m) (protocol.handled (plan_of T) x b r) (with_list x b (x.waiting b ++ r ∷ []))

      turn : (m : Mode) → p.mode ≡ m → Invariant (plan_of T) (either m)
          → ShowsHere (locked T.moves T.gates b T.masks p r m) (either m)
      turn Free e k = handled_shows T q G log b hb S (begun p) x s (omega arith) h j r et
          (free_of (h.phase b) (ap is_free (sym (j.task b).mode_is ∙ own_mode G log b S (begun p) x s ∙ e))) hg
      turn (Held o) e k =
          let most = waiting_room (plan_of T) q.right (with_list x b (x.waiting b ++ r ∷ [])) k.ghost k.links b in
          let few : length (x.waiting b ++ r ∷ []) ≤ T.gates = rw eqb_same at most in
          let e₁ = length-append (x.waiting b) (r ∷ []) in
          let e₂ : length (x.waiting b) ≡ p.count = ap length (own_waiting G log b S (begun p) x s) ∙ wait_length p s.fit in
          waits_shows G log b S p x r s (omega (arith, q.rules.gates))

  -- a result from u at b: s is the protocol's line before, and p shows it without the message
  module _ (s : Line) (i : Invariant (plan_of T) s) (u g v : ℕ) (k : Bool) (ep : i.ghost.phase b ≡ decided g v u k)
      (t : ShowsHere (begun p) (lock_taken_across s u b)) where
    abbrev worked : Bool → Work
    worked c = freed_work T b p g c

    same_state : s.at b ≡ p.state
    same_state = own_state G log b S (begun p) (lock_taken_across s u b) t

    committed_shows : (to : Option ℕ) → is_move to ≡ true
        → ShowsHere (moved_to T.moves T.gates b to (begun p)) (step.moved (plan_of T) (released s u b) b (moved p.state to))
    committed_shows None e = clash (sym e)
    committed_shows (Some y) e =
        moved_shows G log b S T q hb y (begun p) (lock_taken_across s u b) t (ready_room T q s i.ghost i.links b)

    held_ready : ready_of T.moves b p.state g ≡ true
    held_ready = ap (λ (x : ℕ). ready_of T.moves b x g) (sym same_state) ∙ (rw ep at (i.meaning.held_ready b))

    result_taken : (c : Bool) → ShowsHere (worked c) (protocol.freed (plan_of T) s u b g c)
    result_taken false = freed_shows G log b S (begun p) (lock_taken_across s u b) t
    result_taken true = rw same_state (committed_shows (move_of T.moves b p.state g) held_ready)

    none_fired : (c : Bool) → (worked c).fired ≡ 0
    none_fired true = moved_fired T.moves T.gates b (move_of T.moves b p.state g) (begun p)
    none_fired false = refl

    pub result_shows : ShowsHere (list_handled T.moves T.gates b T.masks p.count (worked k))
        (protocol.list_handled (plan_of T) (protocol.freed (plan_of T) s u b g k) b (s.waiting b))
    result_shows =
        let F : Line = protocol.freed (plan_of T) s u b g k in
        let y = freed_busy (plan_of T) q.right s i u b g v k ep in
        let ew : s.waiting b ≡ requests_of p = own_waiting G log b S (begun p) (lock_taken_across s u b) t in
        let el : length (s.waiting b) ≡ p.count = ap length ew ∙ wait_length p t.fit in
        let f = none_fired k in
        subst (λ (n : ℕ). ShowsHere (list_handled T.moves T.gates b T.masks n (worked k))
        (protocol.list_handled (plan_of T) F b (s.waiting b))) el
        (list_shows T q G log b hb S (s.waiting b) (worked k) F y.0 (result_taken k) y.1 y.2 (omega (arith, t.fit.few)))
