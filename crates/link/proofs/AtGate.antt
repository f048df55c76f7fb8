-- A message at a gate is the protocol's: a READY or a result taken in, and the search behind it.
use Rattle.std.specs.Prelude.{Option, Some, None}
use Prim.Native.Nat.{ℕ, ◌<◌}
use mathlib.Core.Bool.{Bool, ◌&&◌, ◌||◌, cond, false, not, true}
use mathlib.Core.List.{List, []}
use mathlib.Core.Path.{◌≡◌, ◌∙◌, ap, fun_ext, refl, subst, sym}
use native.Mathlib.Omega.{arith}
use lib.Dec.{eqb, ltb}
use lib.ListN.{get_or, length}
use Rattle.laws.specs.Below.{first_from}
use Rattle.sets.specs.Sets.{lowest_of, member_of, minus_of, union_of, with_of, without_of}
use Rattle.numbers.specs.declared.TaskNo.{TaskNo}
use Rattle.sets.proofs.Ends.{lowest_nobody, lowest_says}
use Rattle.sets.proofs.Members.{member_minus, member_union, member_with, member_without}
use Rattle.table.specs.Tables.{mask_of}
use Rattle.table.specs.declared.Table.{Table}
use Rattle.channels.specs.Channels.{empty1, empty3, popped3, put1}
use Rattle.channels.specs.declared.Channel1.{Channel1}
use Rattle.channels.specs.declared.Message.{Message}
use Rattle.channels.specs.declared.Message.TheVariants.{Lock}
use Rattle.channels.specs.declared.Request.{Request}
use Rattle.state.specs.States.{down_of, up_of}
use Rattle.state.specs.Parts.{with_up}
use Rattle.state.specs.declared.Deal.{Deal}
use Rattle.state.specs.declared.Deal.TheVariants.{Dealing, Idle}
use Rattle.state.specs.declared.Gate.{Gate}
use Rattle.state.specs.declared.Task.{Task}
use Rattle.gates.specs.Gates.{allowed, dealt, fitting, offering, searched, searched_by, sent_down}
use Rattle.gates.specs.declared.Work.{Work}
use Rattle.kept.proofs.Rules.{SizedGate}
use Rattle.protocol.specs.Lines.{Line}
use Rattle.protocol.specs.Plans.{changed}
use Rattle.protocol.specs.Steps.{ready_taken, result_taken}
use Rattle.protocol.proofs.Agree.{agree_path}
use Rattle.protocol.proofs.Cases.{clash, diff, eq_case, same}
use Rattle.line.specs.Contents.{messages1, messages3}
use Rattle.link.proofs.Channels.{empty_count1, put_messages1}
use Rattle.link.proofs.Frame.{changed_at, changed_back, changed_twice, part_changed, part_kept, row_changed_from, row_changed_to, row_kept, set_row}
use Rattle.link.proofs.Tables.{Lawful, covered_by, number_of, plan_of, subset_covered}
use Rattle.link.proofs.View.{across_list, down_list, line_with, up_list, requests_of}
use Rattle.protocol.specs.Steps as step
use Rattle.protocol.specs.Deliveries as protocol

or_cond : (a b : Bool) → (a || b) ≡ cond a true b
or_cond true b = refl
or_cond false b = refl

not_cond : (a b : Bool) → (not a && b) ≡ cond a false b
not_cond true b = refl
not_cond false b = refl

-- task t without the oldest message to gate g
abbrev pub up_taken : Task → ℕ → Task
up_taken p g = with_up p g (popped3 (up_of p g))

-- the offers after t's result
abbrev pub offers_after : Bool → ℕ → ℕ → ℕ → ℕ
offers_after true t offers mask = without_of offers t
offers_after false t offers mask = without_of (union_of offers mask) t

module _ (S : ℕ → Task) (G : ℕ → Gate) (log : List Request) (t g : ℕ) (ht : t < 16) (hg : g < length (S t).up) where
  abbrev rest : List Message
  rest = messages3 (popped3 (up_of (S t) g))

  pub ready_line : line_with (changed S t (up_taken (S t) g)) (changed G g (offering (G g) (with_of (G g).offers t) (G g).deal)) log
      ≡ ready_taken (line_with S G log) t g rest
  ready_line = agree_path (record {
    at = part_kept (λ p. p.state) S t (up_taken (S t) g) refl;
    mode = part_kept (λ p. p.mode) S t (up_taken (S t) g) refl;
    waiting = part_kept requests_of S t (up_taken (S t) g) refl;
    offers = row_changed_from (λ k y. member_of k.offers y) G g t _ true
        (λ y. member_with (G g).offers t y ht ∙ or_cond (eqb y t) (member_of (G g).offers y));
    deal = part_kept (λ k. k.deal) G g _ refl;
    up = row_changed_to up_list S t g (up_taken (S t) g) _ (set_row messages3 (S t).up g (popped3 (up_of (S t) g)) empty3 hg);
    down = row_kept down_list G g _ (λ y. refl);
    across = row_kept across_list S t (up_taken (S t) g) (λ y. refl);
    log = refl;
  })

  pub result_line : (T : Table) (v : ℕ) (k : Bool)
      → line_with (changed S t (up_taken (S t) g))
      (changed G g (offering (G g) (offers_after k t (G g).offers (mask_of T.masks g v)) Idle)) log
      ≡ result_taken (plan_of T) (line_with S G log) t g v k rest
  result_line T v k = agree_path (record {
    at = part_kept (λ p. p.state) S t (up_taken (S t) g) refl;
    mode = part_kept (λ p. p.mode) S t (up_taken (S t) g) refl;
    waiting = part_kept requests_of S t (up_taken (S t) g) refl;
    offers = λ x y. elim (eq_case x g) [ diff p e ↦ rw e | same p e ↦ rw (e, p) (after k y) ];
    deal = part_changed (λ k. k.deal) G g _ Idle refl;
    up = row_changed_to up_list S t g (up_taken (S t) g) _ (set_row messages3 (S t).up g (popped3 (up_of (S t) g)) empty3 hg);
    down = row_kept down_list G g _ (λ y. refl);
    across = row_kept across_list S t (up_taken (S t) g) (λ y. refl);
    log = refl;
  })
    where
      mask : ℕ
      mask = mask_of T.masks g v

      after : (k : Bool) (y : ℕ) → member_of (offers_after k t (G g).offers (mask_of T.masks g v)) y
          ≡ step.offers_after (plan_of T) g v k (member_of (G g).offers) t y
      after true y = member_without (G g).offers t y ht ∙ not_cond (eqb y t) (member_of (G g).offers y)
      after false y =
          member_without (union_of (G g).offers mask) t y ht ∙ not_cond (eqb y t) (member_of (union_of (G g).offers mask) y)
          ∙ ap (λ b. cond (eqb y t) false b) (member_union (G g).offers mask y)

-- the gate's work w is the protocol's line x
pub record Searched (S : ℕ → Task) (G : ℕ → Gate) (log : List Request) (g : ℕ) (w : Work) (x : Line) : Type 0 where
  pub good : w.ok ≡ true
  pub is : line_with S (changed G g w.gate) log ≡ x

module _ (T : Table) (q : Lawful T) (S : ℕ → Task) (G : ℕ → Gate) (log : List Request) (g : ℕ) (z : SizedGate (G g))
    (silent : (G g).deal ≡ Idle → (b : ℕ) → down_list (G g) b ≡ []) where
  abbrev vectors : ℕ
  vectors = get_or T.vectors g 0

  abbrev offers : ℕ
  offers = (G g).offers

  abbrev X : Line
  X = line_with S G log

  -- the gate that deals v, and the LOCK that it sends
  abbrev dealt_gate : ℕ → Gate
  dealt_gate v = offering (G g) (minus_of offers (mask_of T.masks g v)) (Dealing v)

  abbrev lock_of : ℕ → Message
  lock_of v = Lock (record { gate = record { 0 = g }; vector = v })

  same_fitting : fitting T.masks vectors g offers ≡ first_from 0 vectors (λ v. covered_by (mask_of T.masks g v) (member_of offers))
  same_fitting = ap (first_from 0 vectors) (fun_ext (λ v. subset_covered (mask_of T.masks g v) offers (q.small g v)))

  stays : Searched S G log g (allowed (G g)) X
  stays = record { good = refl; is = ap (λ (f : ℕ → Gate). line_with S f log) (changed_back G g) }

  dealt_line : (v b : ℕ) → b < 16 → (G g).deal ≡ Idle
      → Searched S G log g (sent_down (dealt_gate v) (Some (record { 0 = b })) (lock_of v)) (step.dealt (plan_of T) X g v b)
  dealt_line v b hb e =
      let c : Channel1 = down_of (G g) b in
      let long : b < length (G g).down = omega (arith, z.down) in
      record {
        good = rw (empty_count1 c (silent e b));
        is = agree_path (record {
          at = λ x. refl;
          mode = λ x. refl;
          waiting = λ x. refl;
          offers = λ x y. elim (eq_case x g) [ diff p f ↦ rw f | same p f ↦ rw (f, p) (member_minus offers (mask_of T.masks g v) y) ];
          deal = part_changed (λ k. k.deal) G g _ (Dealing v) refl;
          up = λ x y. refl;
          down = row_changed_from down_list G g b _ _ (λ y. set_row messages1 (G g).down b (put1 c (lock_of v)) empty1 long y
              ∙ ap (λ m. changed (λ y. down_list (G g) y) b m y) (put_messages1 c (lock_of v) (silent e b)));
          across = λ x y. refl;
          log = refl;
        });
      }

  dealt_shows : (v : ℕ) → (plan_of T).fitting g (member_of offers) ≡ Some v → (G g).deal ≡ Idle
      → Searched S G log g (dealt T.masks vectors g (G g) v) (step.dealt (plan_of T) X g v ((plan_of T).lowest g v))
  dealt_shows v e i = turn (lowest_of (mask_of T.masks g v)) refl
    where
      turn : (f : Option TaskNo) → lowest_of (mask_of T.masks g v) ≡ f
          → Searched S G log g (sent_down (dealt_gate v) f (lock_of v)) (step.dealt (plan_of T) X g v (number_of f))
      turn None h = clash (
          sym (subst (λ (f : Option TaskNo). member_of (mask_of T.masks g v) (number_of f) ≡ true) h (q.right.lowest_in g v (member_of offers) e))
          ∙ lowest_nobody (mask_of T.masks g v) h 0 (omega arith))
      turn (Some u) h = dealt_line v u.0 (lowest_says (mask_of T.masks g v) u h).high i

  -- "After any of the three, a gate that is Idle searches"
  pub searched_shows : Searched S G log g (searched T.masks vectors g (G g)) (protocol.searched (plan_of T) X g)
  unfolding searched
  searched_shows = turn (G g).deal refl
    where
      fit : ℕ
      fit = first_from 0 (get_or T.vectors g 0) (λ v. covered_by (mask_of T.masks g v) (member_of (G g).offers))

      found_one : (n : ℕ) (c : Bool) → (plan_of T).fitting g (member_of (G g).offers) ≡ cond c (Some n) None → (G g).deal ≡ Idle
          → Searched S G log g (cond c (dealt T.masks vectors g (G g) n) (allowed (G g)))
          (protocol.dealt_if (plan_of T) X g (cond c (Some n) None))
      found_one n true e i = dealt_shows n e i
      found_one n false e i = stays

      turn : (m : Deal) → (G g).deal ≡ m
          → Searched S G log g (searched_by T.masks vectors g (G g) m) (protocol.searched_by (plan_of T) X g m)
      turn Idle e = subst (λ (n : ℕ). Searched S G log g (cond (ltb n vectors) (dealt T.masks vectors g (G g) n) (allowed (G g)))
          (protocol.dealt_if (plan_of T) X g ((plan_of T).fitting g (member_of (G g).offers)))) (sym same_fitting)
          (found_one fit (ltb fit vectors) refl e)
      turn (Dealing v) e = stays

-- the same of a gate k that is stored at g
pub searched_at : (T : Table) (q : Lawful T) (S : ℕ → Task) (G : ℕ → Gate) (log : List Request) (g : ℕ) (k : Gate) → SizedGate k
    → (k.deal ≡ Idle → (b : ℕ) → down_list k b ≡ [])
    → Searched S G log g (searched T.masks (get_or T.vectors g 0) g k) (protocol.searched (plan_of T) (line_with S (changed G g k) log) g)
searched_at T q S G log g k z silent =
    let e = changed_at G g k in
    let r = searched_shows T q S (changed G g k) log g (subst SizedGate (sym e) z)
    (subst (λ (x : Gate). x.deal ≡ Idle → (b : ℕ) → down_list x b ≡ []) (sym e) silent) in
    let X : Line = protocol.searched (plan_of T) (line_with S (changed G g k) log) g in
    subst (λ (x : Gate). Searched S G log g (searched T.masks (get_or T.vectors g 0) g x) X) e
    record {
      good = r.good;
      is = ap (λ (f : ℕ → Gate). line_with S f log)
          (sym (changed_twice G g k (searched T.masks (get_or T.vectors g 0) g (changed G g k g)).gate)) ∙ r.is;
    }
