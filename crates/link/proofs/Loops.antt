-- The loops of sends and of announcements, as rows changed below a bound.
use Prim.Native.Nat.{ℕ, ◌<◌, ◌≤◌, suc, zero}
use mathlib.Core.Bool.{Bool, ◌&&◌, cond, false, not, true}
use mathlib.Core.List.{List, [], ◌++◌, ◌∷◌}
use mathlib.Core.Logic.{◌≢◌}
use mathlib.Core.Path.{◌≡◌, ◌∙◌, ap, refl, sym}
use native.Mathlib.Numerals.{add-one}
use native.Mathlib.Omega.{arith}
use lib.Dec.{eqb, ltb}
use lib.ListN.{get_or, length, length-append, length-set, set}
use borrow.Author.Tests.{le-ltb, lt-ltb}
use Rattle.laws.specs.Turns.{up_to}
use Rattle.laws.proofs.Tests.{ltb_other}
use Rattle.sets.specs.Sets.{member_of}
use Rattle.table.specs.Tables.{ready_of}
use Rattle.channels.specs.Channels.{empty1, empty3, ends_ready, put1, put3}
use Rattle.channels.specs.declared.Channel1.{Channel1}
use Rattle.channels.specs.declared.Channel3.{Channel3}
use Rattle.channels.specs.declared.Message.{Message}
use Rattle.channels.specs.declared.Message.TheVariants.{Ready}
use Rattle.channels.specs.declared.Request.{Request}
use Rattle.state.specs.declared.Task.{Task}
use Rattle.tasks.specs.Tasks.{announced_at, sent_at}
use Rattle.tasks.specs.declared.Work.{Work}
use Rattle.protocol.specs.Plans.{changed}
use Rattle.protocol.specs.Steps.{with_ready}
use Rattle.protocol.proofs.Cases.{and_no, diff, eq_case, same}
use Rattle.line.specs.Contents.{messages1, messages3}
use Rattle.link.proofs.Channels.{empty_count1, put_messages1, put_messages3, room3, with_ready3}
use Rattle.link.proofs.Frame.{set_row}
use Rattle.link.proofs.View.{across_list, up_list}

ltb_next : (y n : ℕ) → y ≢ n → ltb y (suc n) ≡ ltb y n
ltb_next y n d = rw add-one at (ltb_other y n d)

-- a row changed at those places below n that `who` names
module _ {B : Type 0} (who : ℕ → Bool) (old new : ℕ → B) where
  abbrev pub below : ℕ → ℕ → B
  below n y = cond (who y && ltb y n) (new y) (old y)

  pub below_none : (y : ℕ) → below 0 y ≡ old y
  below_none y = rw (le-ltb y 0 (omega arith), and_no)

  pub below_same : (n : ℕ) → below n n ≡ old n
  below_same n = rw (le-ltb n n (omega arith), and_no)

  pub below_skip : (n y : ℕ) → who n ≡ false → below n y ≡ below (suc n) y
  below_skip n y e = elim (eq_case y n) [ same p f ↦ rw (p, e) | diff p f ↦ rw (ltb_next y n p) ]

  pub below_more : (n y : ℕ) → who n ≡ true → changed (below n) n (new n) y ≡ below (suc n) y
  below_more n y e = elim (eq_case y n) [
    | same p f ↦ rw (f, p, e, lt-ltb n (suc n) (omega arith))
    | diff p f ↦ rw (f, ltb_next y n p)
  ]

abbrev pub with_acrosses : Task → List Channel1 → Task
with_acrosses p l = record { state = p.state; mode = p.mode; count = p.count; waiting = p.waiting; up = p.up; across = l }

abbrev pub with_ups : Task → List Channel3 → Task
with_ups p l = record { state = p.state; mode = p.mode; count = p.count; waiting = p.waiting; up = l; across = p.across }

-- work on a task with these entries, allowed so far or not
abbrev pub allowed_if : Bool → Task → ℕ → List Request → Work
allowed_if ok p fired entries = record { task = p; ok = ok; fired = fired; entries = entries }

abbrev pub allowed : Task → ℕ → List Request → Work
allowed p fired entries = allowed_if true p fired entries

-- m to each task below n of the mask
module _ (mask : ℕ) (m : Message) (p : Task) (fired : ℕ) (entries : List Request) (sixteen : length p.across ≡ 16) where
  abbrev sent_row : ℕ → ℕ → List Message
  sent_row = below (member_of mask) (across_list p) (λ y. across_list p y ++ m ∷ [])

  pub record Sent (n : ℕ) : Type 0 where
    pub channels : List Channel1
    pub long : length channels ≡ 16
    pub is : up_to (sent_at mask m) n (allowed p fired entries) ≡ allowed (with_acrosses p channels) fired entries
    pub row : (y : ℕ) → messages1 (get_or channels y empty1) ≡ sent_row n y

  pub send : (n : ℕ) → n ≤ 16 → ((y : ℕ) → member_of mask y ≡ true → y < n → across_list p y ≡ []) → Sent n
  send zero h a = record {
    channels = p.across;
    long = sixteen;
    is = refl;
    row = λ y. sym (below_none (member_of mask) (across_list p) (λ y. across_list p y ++ m ∷ []) y);
  }
  send (suc n) h a = turn (send n (omega arith) (λ y e l. a y e (omega arith))) (member_of mask n) refl
    where
      turn : Sent n → (c : Bool) → member_of mask n ≡ c → Sent (suc n)
      turn r false e = record {
        channels = r.channels;
        long = r.long;
        is = rw e r.is;
        row = λ y. r.row y ∙ below_skip (member_of mask) (across_list p) (λ y. across_list p y ++ m ∷ []) n y e;
      }
      turn r true e =
          let c = get_or r.channels n empty1 in
          let q : messages1 c ≡ across_list p n =
          r.row n ∙ below_same (member_of mask) (across_list p) (λ y. across_list p y ++ m ∷ []) n in
          let none : messages1 c ≡ [] = q ∙ a n e (omega arith) in
          let v : messages1 (put1 c m) ≡ across_list p n ++ m ∷ [] =
          put_messages1 c m none ∙ ap (λ l. l ++ m ∷ []) q in
          record {
            channels = set r.channels n (put1 c m);
            long = simp length-set r.long;
            is = rw (r.is, e) (ap (λ b. allowed_if b (with_acrosses p (set r.channels n (put1 c m))) fired entries)
                (rw (empty_count1 c none)));
            row = λ y. set_row messages1 r.channels n (put1 c m) empty1 (let w = r.long in omega arith) y
                ∙ ap (λ z. cond (eqb y n) z (messages1 (get_or r.channels y empty1))) v
                ∙ ap (λ z. cond (eqb y n) (across_list p n ++ m ∷ []) z) (r.row y)
                ∙ below_more (member_of mask) (across_list p) (λ y. across_list p y ++ m ∷ []) n y e;
          }

-- READY to each gate below n at which task t is ready in state x
module _ (moves : List ℕ) (gates t x : ℕ) (p : Task) (fired : ℕ) (entries : List Request) (sixteen : length p.up ≡ 16)
    (room : (g : ℕ) → length (with_ready (up_list p g)) ≤ 3) where
  abbrev ready : ℕ → Bool
  ready = ready_of moves t x

  abbrev old : ℕ → List Message
  old = up_list p

  abbrev new : ℕ → List Message
  new y = with_ready (up_list p y)

  pub record Told (n : ℕ) : Type 0 where
    pub channels : List Channel3
    pub long : length channels ≡ 16
    pub is : up_to (announced_at moves gates t x) n (allowed p fired entries) ≡ allowed (with_ups p channels) fired entries
    pub row : (y : ℕ) → messages3 (get_or channels y empty3) ≡ below ready old new n y

  pub tell : (n : ℕ) → n ≤ 16 → Told n
  tell zero h = record { channels = p.up; long = sixteen; is = refl; row = λ y. sym (below_none ready old new y) }
  tell (suc n) h = turn (tell n (omega arith)) (ready n) refl
    where
      turn : Told n → (a : Bool) → ready n ≡ a → Told (suc n)
      turn r false e = record {
        channels = r.channels;
        long = r.long;
        is = rw (r.is, e);
        row = λ y. r.row y ∙ below_skip ready old new n y e;
      }
      turn r true e = put (not (ends_ready (get_or r.channels n empty3))) refl
        where
          same_row : messages3 (get_or r.channels n empty3) ≡ up_list p n
          same_row = r.row n ∙ below_same ready old new n

          put : (a : Bool) → not (ends_ready (get_or r.channels n empty3)) ≡ a → Told (suc n)
          put false d = record {
            channels = r.channels;
            long = r.long;
            is = rw (r.is, e, d);
            row = λ y. r.row y ∙ sym (stays y) ∙ below_more ready old new n y e;
          }
            where
              same_add : with_ready (up_list p n) ≡ up_list p n
              same_add = rw (← same_row) (with_ready3 (get_or r.channels n empty3) ∙ rw d)

              stays : (y : ℕ) → changed (below ready old new n) n (new n) y ≡ below ready old new n y
              stays y = elim (eq_case y n) [
                | diff a b ↦ rw b
                | same a b ↦ rw (b, a) (same_add ∙ sym (below_same ready old new n))
              ]
          put true d = record {
            channels = set r.channels n (put3 (get_or r.channels n empty3) Ready);
            long = simp length-set r.long;
            is = rw (r.is, e, d)
                (ap (λ b. allowed_if b (with_ups p (set r.channels n (put3 (get_or r.channels n empty3) Ready))) fired entries)
                (lt-ltb _ 3 small));
            row = λ y. set_row messages3 r.channels n (put3 (get_or r.channels n empty3) Ready) empty3
                (let w = r.long in omega arith) y
                ∙ ap (λ z. cond (eqb y n) z (messages3 (get_or r.channels y empty3))) v
                ∙ ap (λ z. cond (eqb y n) (new n) z) (r.row y)
                ∙ below_more ready old new n y e;
          }
            where
              added : with_ready (up_list p n) ≡ messages3 (get_or r.channels n empty3) ++ Ready ∷ []
              added = rw (← same_row) (with_ready3 (get_or r.channels n empty3) ∙ rw d)

              small : (get_or r.channels n empty3).count < 3
              small = room3 (get_or r.channels n empty3)
                  (let a : length (messages3 (get_or r.channels n empty3) ++ Ready ∷ []) ≤ 3 = rw added at (room n) in
                  let b = length-append (messages3 (get_or r.channels n empty3)) (Ready ∷ []) in
                  omega arith)

              v : messages3 (put3 (get_or r.channels n empty3) Ready) ≡ with_ready (up_list p n)
              v = put_messages3 (get_or r.channels n empty3) Ready small ∙ sym added
