-- A waiting list with a request put last, and without its front, keeps the rules of its task.
use Prim.Native.Nat.{ℕ, suc, zero, ◌+◌, ◌<◌, ◌≤◌}
use mathlib.Core.Bool.{Bool, true}
use mathlib.Core.List.{List, [], ◌∷◌, ◌++◌}
use mathlib.Core.Logic.{⊎_elim}
use mathlib.Core.Path.{◌≡◌, refl, sym, ◌∙◌, subst}
use native.Mathlib.Omega.{arith}
use lib.Dec.{ltb, leb-suc-suc}
use lib.ListN.{get_or, set, drop, length, length-set, length-drop, length-append, get_or-eq_default}
use lib.Seq.{get_or-set_same, get_or-set_other}
use borrow.Author.Tests.{lt-ltb, le-ltb}
use Rattle.std.proofs.lemmas.Bool.{cases_eq}
use Rattle.laws.proofs.Tests.{ltb_other, le_or_lt}
use Rattle.table.specs.declared.Table.{Table}
use Rattle.channels.specs.Channels.{no_request}
use Rattle.channels.specs.declared.Request.{Request}
use Rattle.state.specs.States.{with_waiting, without_front}
use Rattle.state.specs.Parts.{moved_up}
use Rattle.state.specs.declared.Task.{Task}
use Rattle.sound_state.specs.Parts.{waiting_sound}
use Rattle.kept.proofs.Rules.{Kept, names_of}

-- the place i of a list that moved up is the place after i
past_end : (l : List Request) (i : ℕ) → get_or (l ++ no_request ∷ []) i no_request ≡ get_or l i no_request
past_end [] zero = refl
past_end [] (suc i) = refl
past_end (x ∷ l) zero = refl
past_end (x ∷ l) (suc i) = past_end l i

moved_at : (l : List Request) (i : ℕ) → get_or (moved_up l) i no_request ≡ get_or l (suc i) no_request
moved_at [] i = past_end [] i
moved_at (x ∷ l) i = past_end l i

moved_length : (l : List Request) → length l ≡ 16 → length (moved_up l) ≡ 16
moved_length l h = length-append (drop 1 l) (no_request ∷ []) ∙ rw (length-drop 1 l, h)

module _ (T : Table) (t n : ℕ) (p : Task) where
  abbrev Waits : ℕ → ℕ → Request → Type 0
  Waits i m r = waiting_sound T.vectors T.masks t (ltb i m) r ≡ true

  pub front_names : Kept T t (suc n) p → names_of T t (get_or p.waiting 0 no_request) ≡ true
  front_names k = rw (lt-ltb 0 (suc n) (omega arith)) at (k.waiting 0 (omega arith))

  pub front_kept : Kept T t (suc n) p → Kept T t n (without_front p)
  front_kept k = record {
    sized = record {
      waiting = moved_length p.waiting
          k.sized.waiting;
      up = k.sized.up;
      across = k.sized.across;
    };
    state = k.state;
    held = k.held;
    counted = omega (arith, k.counted);
    few = omega (arith, k.few);
    waiting = λ i l. subst (Waits i n) (sym (moved_at p.waiting i)) (next i l);
    up = k.up;
    across = k.across;
  }
    where
      next : (i : ℕ) → i < 16 → Waits i n (get_or p.waiting (suc i) no_request)
      next i l = ⊎_elim
          (λ (h : 16 ≤ suc i). subst (Waits i n)
          (sym (get_or-eq_default p.waiting no_request {n = suc i} (omega (arith, k.sized.waiting))))
          (rw (le-ltb i n (omega (arith, k.few)))))
          (λ (h : suc i < 16). subst (λ (b : Bool). waiting_sound T.vectors T.masks t b
          (get_or p.waiting (suc i) no_request) ≡ true)
          (leb-suc-suc (suc i) n) (k.waiting (suc i) h))
          (le_or_lt 16 (suc i))

  pub last_kept : (r : Request) → n < 16 → names_of T t r ≡ true → Kept T t n p
      → Kept T t (n + 1) (with_waiting p (p.count + 1) (set p.waiting p.count r))
  last_kept r l h k =
      subst (λ (c : ℕ). Kept T t (n + 1) (with_waiting p (c + 1) (set p.waiting c r))) (sym k.counted) record {
        sized = record {
          waiting = length-set p.waiting n r
              ∙ k.sized.waiting;
          up = k.sized.up;
          across = k.sized.across;
        };
        state = k.state;
        held = k.held;
        counted = refl;
        few = omega arith;
        waiting = λ i m. ⊎_elim
            (λ (e : i ≡ n). rw (
              e,
              lt-ltb n (n + 1) (omega arith),
              get_or-set_same p.waiting n r no_request
                  (omega (arith, k.sized.waiting)),
            ) h)
            (λ (e : i ≡ n → ⊥). subst (Waits i (n + 1)) (sym (get_or-set_other p.waiting n i r no_request e))
            (rw (ltb_other i n e) (k.waiting i m)))
            (cases_eq i n);
        up = k.up;
        across = k.across;
      }
