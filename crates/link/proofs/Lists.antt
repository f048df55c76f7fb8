-- The waiting list handled from the front is the protocol's.
use Prim.Native.Nat.{ℕ, ◌+◌, ◌-◌, ◌<◌, ◌≤◌, suc, zero}
use mathlib.Core.Bool.{Bool, cond, false, true}
use mathlib.Core.List.{List, [], ◌∷◌}
use mathlib.Core.Path.{◌≡◌, ◌∙◌, ap, refl, subst, sym}
use native.Mathlib.Omega.{arith}
use lib.ListN.{get_or, length, length-append, length-drop, take}
use lib.Seq.{length-take-le, take-append-le}
use Rattle.table.specs.declared.Table.{Table}
use Rattle.channels.specs.Channels.{no_request}
use Rattle.channels.specs.declared.Request.{Request}
use Rattle.state.specs.States.{without_front}
use Rattle.state.specs.Parts.{moved_up}
use Rattle.state.specs.declared.Gate.{Gate}
use Rattle.state.specs.declared.Task.{Task}
use Rattle.tasks.specs.Tasks.{handled, is_free, list_handled, with}
use Rattle.tasks.specs.declared.Work.{Work}
use Rattle.tasks.proofs.Fired.{handled_fired}
use Rattle.protocol.specs.Lines.{Line}
use Rattle.protocol.specs.Steps.{with_list}
use Rattle.protocol.proofs.Agree.{agree_path}
use Rattle.protocol.proofs.Cases.{clash, eqb_same}
use Rattle.protocol.proofs.Invariant.{Busy, Ghost}
use Rattle.protocol.proofs.ListHandled.{front_handled}
use Rattle.protocol.proofs.Listed.{unwait_links}
use Rattle.protocol.proofs.Phases.{idle}
use Rattle.protocol.proofs.Reading.{free_of, queued_of}
use Rattle.protocol.proofs.TokenMoves.{token_to}
use Rattle.protocol.proofs.Tokens.{in_hand, queued, vectors_of}
use Rattle.link.proofs.Frame.{swap_kept, swap_part}
use Rattle.link.proofs.Handled.{handled_shows}
use Rattle.link.proofs.Shows.{Fit, Shows, own_mode, own_waiting, shows_all}
use Rattle.link.proofs.Tables.{Lawful, plan_of}
use Rattle.link.proofs.View.{across_list, up_list, requests_of}
use Rattle.protocol.specs.Deliveries as protocol

pub wait_length : (p : Task) → Fit p → length (requests_of p) ≡ p.count
wait_length p z = length-take-le p.count p.waiting (omega (arith, z.few, z.sized.waiting))

-- the front of a waiting list, and the list behind it
front : (n : ℕ) (waiting : List Request) (r : Request) (l : List Request) → n ≤ length waiting
    → take n waiting ≡ r ∷ l
    → (get_or waiting 0 no_request ≡ r) × (take (n - 1) (moved_up waiting) ≡ l)
front zero waiting r l h e = clash (cc)
front (suc n) [] r l h e = absurd (omega arith)
front (suc n) (a ∷ waiting) r l h e =
    let p : suc n - 1 ≡ n = omega arith in
    (cc, rw (p, take-append-le n waiting (no_request ∷ []) (omega arith)) (cc))

fit_behind : (p : Task) → Fit p → Fit (without_front p)
fit_behind p z = record {
  sized = record { waiting = simp (length-append, length-drop, z.sized.waiting); up = z.sized.up; across = z.sized.across };
  few = (let y : p.count - 1 ≤ 16 = omega (arith, z.few) in y);
}

-- b's list without its front
front_shows : (G : ℕ → Gate) (log : List Request) (b : ℕ) (S : ℕ → Task) (l : List Request) (w : Work) (x : Line) → Shows G log b S w x
    → requests_of (without_front w.task) ≡ l → Shows G log b S (with w (without_front w.task) w.ok) (with_list x b l)
front_shows G log b S l = shows_all G log b S
    (λ w x. requests_of (without_front w.task) ≡ l → Shows G log b S (with w (without_front w.task) w.ok) (with_list x b l))
    (λ p n E z long e. record {
      good = refl;
      fit = fit_behind p z;
      long = long;
      is = agree_path (record {
        at = swap_kept (λ p. p.state) S b p (without_front p) refl;
        mode = swap_kept (λ p. p.mode) S b p (without_front p) refl;
        waiting = swap_part requests_of S b p (without_front p) l e;
        offers = λ g t. refl;
        deal = λ g. refl;
        up = λ y g. swap_kept (λ p. up_list p g) S b p (without_front p) refl y;
        down = λ g t. refl;
        across = λ y c. swap_kept (λ p. across_list p c) S b p (without_front p) refl y;
        log = refl;
      });
    })

module _ (T : Table) (q : Lawful T) (G : ℕ → Gate) (log : List Request) (b : ℕ) (hb : b < 16) (S : ℕ → Task) where
  abbrev ShowsHere : Work → Line → Type 0
  ShowsHere w x = Shows G log b S w x

  own_free : (w : Work) (x : Line) → ShowsHere w x → is_free (x.mode b) ≡ is_free w.task.mode
  own_free w x r = ap is_free (own_mode G log b S w x r)

  -- one request
  next : (r : Request) (l : List Request) (w : Work) (x : Line) (h : Ghost) → ShowsHere w x → Busy (plan_of T) x h b
      → x.waiting b ≡ r ∷ l → requests_of (without_front w.task) ≡ l → h.phase b ≡ idle → w.fired < 16
      → ShowsHere (handled T.moves T.gates b T.masks r (with w (without_front w.task) w.ok))
      (protocol.handled (plan_of T) (with_list x b l) b r)
  next r l w x h i y ew eq eb nf =
      let g : ℕ = r.gate.0 in
      let v : ℕ = r.vector in
      let et : h.token g ≡ queued v b =
      (queued_of b v (h.token g) (vectors_of g l) (simp (ew, eqb_same) at (y.links.pair b g).waiting_is)).0 in
      let hg : g < T.gates = (q.present g v b (rw et at (y.links.gate g).token_right)).gate in
      handled_shows T q G log b hb S (with w (without_front w.task) w.ok) (with_list x b l) (front_shows G log b S l w x i eq) nf
      (token_to h g (in_hand v b)) (unwait_links (plan_of T) x h y.links g v b l ew) r (rw eqb_same) eb (omega (arith, q.rules.gates))

  abbrev front_of : Work → Request
  front_of w = get_or w.task.waiting 0 no_request

  abbrev after_front : Work → Work
  after_front w = handled T.moves T.gates b T.masks (front_of w) (with w (without_front w.task) w.ok)

  pub list_shows : (l : List Request) (w : Work) (x : Line) (h : Ghost) → ShowsHere w x → Busy (plan_of T) x h b → x.waiting b ≡ l
      → w.fired + length l ≤ 16
      → ShowsHere (list_handled T.moves T.gates b T.masks (length l) w) (protocol.list_handled (plan_of T) x b l)
  unfolding list_handled
  list_shows [] w x h i y ew nf = i
  list_shows (rq ∷ l) w x h i y ew nf =
      turn (λ w x h a b c d. list_shows l w x h a b c d) (is_free w.task.mode) refl (is_free (x.mode b)) refl
    where
      two : ((front_of w) ≡ rq) × (requests_of (without_front w.task) ≡ l)
      two = front w.task.count w.task.waiting rq l (let c = i.fit.few in omega (arith, i.fit.sized.waiting)) (sym (own_waiting G log b S w x i) ∙ ew)

      turn : ((w : Work) (x : Line) (h : Ghost) → ShowsHere w x → Busy (plan_of T) x h b → x.waiting b ≡ l → w.fired + length l ≤ 16
          → ShowsHere (list_handled T.moves T.gates b T.masks (length l) w) (protocol.list_handled (plan_of T) x b l))
          → (a : Bool) → is_free w.task.mode ≡ a → (c : Bool) → is_free (x.mode b) ≡ c
          → ShowsHere (cond a (list_handled T.moves T.gates b T.masks (length l) (after_front w)) w)
          (cond c (protocol.list_handled (plan_of T) (protocol.handled (plan_of T) (with_list x b l) b rq) b l) x)
      turn rec true ea false ec = clash (sym ea ∙ sym (own_free w x i) ∙ ec)
      turn rec false ea true ec = clash (sym ec ∙ own_free w x i ∙ ea)
      turn rec false ea false ec = i
      turn rec true ea true ec =
          let r : Request = front_of w in
          let eb = free_of (h.phase b) (rw (y.links.task b).mode_is at ec) in
          let ew' : x.waiting b ≡ r ∷ l = ew ∙ ap (λ a. a ∷ l) (sym two.0) in
          let s = next r l w x h i y ew' two.1 eb (omega arith) in
          let o = front_handled (plan_of T) q.right x h b r l ew' y eb in
          let f = handled_fired T.moves T.gates b T.masks r (with w (without_front w.task) w.ok) in
          subst (λ (a : Request). ShowsHere (list_handled T.moves T.gates b T.masks (length l) (after_front w))
          (protocol.list_handled (plan_of T) (protocol.handled (plan_of T) (with_list x b l) b a) b l)) two.0
          (rec (after_front w) (protocol.handled (plan_of T) (with_list x b l) b r) o.0 s o.1 o.2 (omega arith))
