-- A message that comes to a present gate from a present task keeps the gate's rules.
use Rattle.std.specs.Prelude.{Option, Some, None}
use Prim.Native.Nat.{ℕ, ◌^◌, ◌<◌, ◌≤◌}
use mathlib.Core.Bool.{Bool, true, false, cond, ◌&&◌}
use mathlib.Core.Path.{◌≡◌, refl, sym, ◌∙◌, subst}
use native.Mathlib.Nat.{div-eq_of_lt, lt_of_le_of_lt}
use native.Mathlib.Omega.{arith}
use lib.Bits.{bit_and, and_le_l, or_lt, xor_lt}
use lib.Dec.{ltb}
use lib.ListN.{get_or, length-set}
use lib.Pow.{pow-lt}
use borrow.Author.Tests.{lt-ltb, ltb-true, eq-eqb, eqb-true}
use Rattle.laws.proofs.Stores.{store_at}
use Rattle.std.proofs.lemmas.Bool.{and_from}
use Rattle.sets.specs.Sets.{member_of, all_below_of, union_of, minus_of, alone_of, with_of, without_of, lowest_of}
use Rattle.numbers.specs.declared.TaskNo.{TaskNo}
use Rattle.sets.proofs.Members.{below_power, member_below}
use Rattle.sets.proofs.Ends.{lowest_says}
use Rattle.table.specs.Tables.{mask_of}
use Rattle.table.specs.declared.Table.{Table}
use Rattle.soundness.proofs.Rules.{Rules}
use Rattle.channels.specs.Channels.{empty1, put1}
use Rattle.channels.specs.declared.Message.{Message}
use Rattle.channels.specs.declared.Message.TheVariants.{Ready, Lock, Commit, Abort}
use Rattle.channels.specs.declared.Channel1.{Channel1}
use Rattle.state.specs.States.{down_of, with_down}
use Rattle.state.specs.declared.Deal.{Deal}
use Rattle.state.specs.declared.Deal.TheVariants.{Idle, Dealing}
use Rattle.state.specs.declared.Gate.{Gate}
use Rattle.sound_state.specs.SoundState.{deal_sound}
use Rattle.sound_state.specs.Parts.{room}
use Rattle.gates.specs.Gates.{allowed, excluded, offering, sent_down, fitting, dealt, searched_by, searched, ended, at_gate}
use Rattle.kept.proofs.Channels.{put_one}
use Rattle.kept.proofs.Rules.{GateRules, down_fit, down_rule}

pub down_kept : (T : Table) (g : ℕ) (k : Gate) (b : ℕ) (c : Channel1) → down_rule T g b c ≡ true → GateRules T g k
    → GateRules T g (with_down k b c)
down_kept T g k b c h r = record {
  sized = record { down = length-set k.down b c ∙ r.sized.down };
  offers = r.offers;
  deal = r.deal;
  down = λ x l. store_at k.down b x c empty1 (λ (d : Channel1). down_rule T g x d ≡ true) (λ (e : x ≡ b). rw e h)
      (r.down x l);
}

-- sets of tasks below n
module _ (n : ℕ) where
  minus_below : (set leaving : ℕ) → set < 2 ^ n → minus_of set leaving < 2 ^ n
  minus_below set leaving h = xor_lt n set (bit_and set leaving) h (lt_of_le_of_lt (and_le_l set leaving) h)

  alone_below : (t : ℕ) → t < n → n ≤ 16 → alone_of t < 2 ^ n
  alone_below t h l = rw (lt-ltb t 16 (omega arith)) (pow-lt h)

module _ (T : Table) (R : Rules T) (g : ℕ) (here : g < T.gates) where
  -- the rules of a gate that is present: its offers are present tasks
  small : (k : Gate) → GateRules T g k → k.offers < 2 ^ T.tasks
  small k r = below_power T.tasks k.offers (eqb-true _ _
      (subst (λ (b : Bool). all_below_of k.offers (room b T.tasks) ≡ true) (lt-ltb g T.gates here) r.offers))

  offering_kept : (k : Gate) (offers : ℕ) (deal : Deal) → offers < 2 ^ T.tasks → deal_sound T.vectors g deal ≡ true
      → GateRules T g k → GateRules T g (offering k offers deal)
  offering_kept k offers deal l d r = record {
    sized = record { down = r.sized.down };
    offers = subst (λ (b : Bool). all_below_of offers (room b T.tasks) ≡ true) (sym (lt-ltb g T.gates here))
        (eq-eqb _ _ (div-eq_of_lt l));
    deal = d;
    down = r.down;
  }

  abbrev count : ℕ
  count = get_or T.vectors g 0

  mask_small : (v : ℕ) → v < count → mask_of T.masks g v < 2 ^ T.tasks
  mask_small v l = below_power T.tasks (mask_of T.masks g v)
      (eqb-true _ _ (R.members g v (omega (arith, R.gates)) l))

  lock_kept : (k : Gate) (v : ℕ) (lowest : Option TaskNo) → v < count → lowest_of (mask_of T.masks g v) ≡ lowest
      → GateRules T g k → GateRules T g (sent_down k lowest (Lock (record { gate = record { 0 = g }; vector = v }))).gate
  lock_kept k v None l e r = r
  lock_kept k v (Some b) l e r =
      let f = lowest_says (mask_of T.masks g v) b e in
      let c : Channel1 = down_of k b.0 in
      let m : Message = Lock (record { gate = record { 0 = g }; vector = v }) in
      let there : b.0 < T.tasks =
      member_below T.tasks (mask_of T.masks g v) b.0 (mask_small v l) f.member in
      let both : (ltb g T.gates && ltb b.0 T.tasks) ≡ true =
      and_from _ _ (lt-ltb g T.gates here) (lt-ltb b.0 T.tasks there) in
      let fits : down_fit T g b.0 m ≡ true =
      and_from _ _ (eq-eqb g g refl) (and_from _ _ (lt-ltb v count l) f.member) in
      down_kept T g k b.0 (put1 c m) (put_one (down_fit T g b.0) _ c (r.down b.0 f.high) both m fits) r

  searched_by_lem : (k : Gate) (deal : Deal) → GateRules T g k → GateRules T g (searched_by T.masks count g k deal).gate
  searched_by_lem k Idle r = turn (ltb v count) refl
    where
      v : ℕ
      v = fitting T.masks count g k.offers

      turn : (b : Bool) → ltb v count ≡ b → GateRules T g (cond b (dealt T.masks count g k v) (allowed k)).gate
      turn true e =
          let l : v < count = ltb-true v count e in
          lock_kept (offering k (minus_of k.offers (mask_of T.masks g v)) (Dealing v)) v
          (lowest_of (mask_of T.masks g v)) l refl
          (offering_kept k (minus_of k.offers (mask_of T.masks g v)) (Dealing v)
          (minus_below T.tasks k.offers (mask_of T.masks g v) (small k r)) e r)
      turn false e = r
  searched_by_lem k (Dealing v) r = r

  searched_kept : (k : Gate) → GateRules T g k → GateRules T g (searched T.masks count g k).gate
  unfolding searched
  searched_kept k = searched_by_lem k k.deal

  ended_kept : (t : ℕ) (offers : ℕ → ℕ → ℕ) (k : Gate) (deal : Deal) → k.deal ≡ deal
      → ((a m : ℕ) → a < 2 ^ T.tasks → m < 2 ^ T.tasks → offers a m < 2 ^ T.tasks)
      → GateRules T g k → GateRules T g (ended T.masks count g t offers k deal).gate
  ended_kept t offers k Idle e h r = r
  ended_kept t offers k (Dealing v) e h r = turn (member_of (mask_of T.masks g v) t)
    where
      after : ℕ
      after = offers k.offers (mask_of T.masks g v)

      vector : v < count
      vector = ltb-true v count (subst (λ (d : Deal). deal_sound T.vectors g d ≡ true) e r.deal)

      turn : (b : Bool) → GateRules T g (cond b (searched T.masks count g (offering k after Idle))
          (excluded k)).gate
      turn true = searched_kept (offering k after Idle)
          (offering_kept k after Idle (h k.offers (mask_of T.masks g v) (small k r) (mask_small v vector)) refl r)
      turn false = r

  pub at_gate_kept : (t : ℕ) (k : Gate) (m : Message) → t < T.tasks → GateRules T g k
      → GateRules T g (at_gate T.masks count g t k m).gate
  unfolding at_gate
  at_gate_kept t k Ready l r =
      searched_kept (offering k (with_of k.offers t) k.deal)
      (offering_kept k (with_of k.offers t) k.deal
      (or_lt T.tasks k.offers (alone_of t) (small k r) (alone_below T.tasks t l R.tasks)) r.deal r)
  at_gate_kept t k (Lock q) l r = r
  at_gate_kept t k (Commit h) l r =
      ended_kept t (λ (a m : ℕ). without_of a t) k k.deal refl (λ a m x y. minus_below T.tasks a (alone_of t) x) r
  at_gate_kept t k (Abort h) l r =
      ended_kept t (λ (a m : ℕ). without_of (union_of a m) t) k k.deal refl
      (λ a m x y. minus_below T.tasks (union_of a m) (alone_of t) (or_lt T.tasks a m x y)) r
