-- Two sound tables that behave alike are equal: what is absent is 0 in both.
use Rattle.std.specs.Prelude.{Option, Some, None}
use Prim.Native.Nat.{ℕ, ◌+◌, ◌*◌, ◌/◌, ◌%◌, ◌<◌, ◌≤◌}
use mathlib.Core.Bool.{true}
use mathlib.Core.Logic.{⊎_elim}
use mathlib.Core.Path.{◌≡◌, refl, sym, ap, ◌∙◌}
use native.Mathlib.Omega.{arith}
use lib.ListN.{get_or, length}
use lib.Seq.{ext_get_or}
use borrow.Author.Tests.{lt-ltb}
use Rattle.laws.proofs.Tests.{le_or_lt}
use Rattle.table.specs.Tables.{is_cell, cell_of, move_of, mask_of}
use Rattle.table.specs.declared.Table.{Table}
use Rattle.table.proofs.Cells.{is_cell_lem, entry_of, entry_at}
use Rattle.soundness.specs.Sound.{sound_table}
use Rattle.soundness.proofs.Rules.{Rules, sound_rules, below_by, Leads, move_leads}
use Rattle.accepted.proofs.Reached.{Sized}

-- the same counts, and the same of each task, transition, gate and vector that is present
pub record Alike (T U : Table) : Type 0 where
  pub tasks : T.tasks ≡ U.tasks
  pub gates : T.gates ≡ U.gates
  pub states : (t : ℕ) → t < T.tasks → get_or T.states t 0 ≡ get_or U.states t 0
  pub starts : (t : ℕ) → t < T.tasks → get_or T.starts t 0 ≡ get_or U.starts t 0
  pub moves : (t x g : ℕ) → t < T.tasks → x < get_or T.states t 0 → g < T.gates → move_of T.moves t x g ≡ move_of U.moves t x g
  pub vectors : (g : ℕ) → g < T.gates → get_or T.vectors g 0 ≡ get_or U.vectors g 0
  pub masks : (g v : ℕ) → g < T.gates → v < get_or T.vectors g 0 → mask_of T.masks g v ≡ mask_of U.masks g v

-- two numbers that are equal below n, and 0 from there on
same_at : (n i a b : ℕ) → (i < n → a ≡ b) → (n ≤ i → a ≡ 0) → (n ≤ i → b ≡ 0) → a ≡ b
same_at n i a b h p q = ⊎_elim (λ (l : n ≤ i). p l ∙ sym (q l)) h (le_or_lt n i)

module _ (T U : Table) (p : Rules T) (q : Rules U) (a : Alike T U) where
  same_states : (t : ℕ) → t < 16 → get_or T.states t 0 ≡ get_or U.states t 0
  same_states t l = same_at T.tasks t _ _ (a.states t) (p.no_states t l) (rw a.tasks (q.no_states t l))

  same_starts : (t : ℕ) → t < 16 → get_or T.starts t 0 ≡ get_or U.starts t 0
  same_starts t l = same_at T.tasks t _ _ (a.starts t) (p.no_start t l) (rw a.tasks (q.no_start t l))

  same_vectors : (g : ℕ) → g < 16 → get_or T.vectors g 0 ≡ get_or U.vectors g 0
  same_vectors g l = same_at T.gates g _ _ (a.vectors g) (p.no_vectors g l) (rw a.gates (q.no_vectors g l))

  same_move : (t x g : ℕ) → move_of T.moves t x g ≡ move_of U.moves t x g
  same_move t x g = turn (move_of T.moves t x g) (move_of U.moves t x g) refl refl
    where
      turn : (m n : Option ℕ) → move_of T.moves t x g ≡ m → move_of U.moves t x g ≡ n → move_of T.moves t x g ≡ move_of U.moves t x g
      turn None None d e = d ∙ sym e
      turn None (Some y) d e =
          let s : Leads U t x g y = move_leads U q t x g y e in
          let l : t < T.tasks = omega arith in
          a.moves t x g l (omega (arith, a.states t l)) (omega arith)
      turn (Some y) n d e = let s : Leads T t x g y = move_leads T p t x g y d in a.moves t x g s.task s.state s.gate

  same_entry : (t x g : ℕ) → t < 16 → x < 16 → g < 16 → get_or T.moves (cell_of t x g) 0 ≡ get_or U.moves (cell_of t x g) 0
  same_entry t x g b c d =
      let r : is_cell t x g ≡ true = is_cell_lem t x g b c d in
      sym (entry_at T.moves t x g r) ∙ ap entry_of (same_move t x g) ∙ entry_at U.moves t x g r

  same_mask : (g v : ℕ) → g < 16 → mask_of T.masks g v ≡ mask_of U.masks g v
  same_mask g v l = same_at (get_or T.vectors g 0) v _ _
      (λ (h : v < get_or T.vectors g 0). a.masks g v (below_by T.gates g (get_or T.vectors g 0) (p.no_vectors g l) (omega arith)) h)
      (p.no_mask g v l) (rw (same_vectors g l) (q.no_mask g v l))

  module _ (s : Sized T) (z : Sized U) where
    states : T.states ≡ U.states
    states = ext_get_or 0 _ _ (cc) (λ (t : ℕ) (l : t < length T.states). same_states t (omega arith))

    starts : T.starts ≡ U.starts
    starts = ext_get_or 0 _ _ (cc) (λ (t : ℕ) (l : t < length T.starts). same_starts t (omega arith))

    moves : T.moves ≡ U.moves
    moves = ext_get_or 0 _ _ (cc) (λ (i : ℕ) (l : i < length T.moves).
        let e : cell_of (i / 256) (i / 16 % 16) (i % 16) ≡ i = omega arith in
        rw e at (same_entry (i / 256) (i / 16 % 16) (i % 16) (omega arith) (omega arith) (omega arith)))

    vectors : T.vectors ≡ U.vectors
    vectors = ext_get_or 0 _ _ (cc) (λ (g : ℕ) (l : g < length T.vectors). same_vectors g (omega arith))

    masks : T.masks ≡ U.masks
    masks = ext_get_or 0 _ _ (cc) (λ (i : ℕ) (l : i < length T.masks).
        let e : i / 8 * 8 + i % 8 ≡ i = omega arith in
        rw (lt-ltb (i % 8) 8 (omega arith), e) at (same_mask (i / 8) (i % 8) (omega arith)))

    same_table : T ≡ U
    same_table = λ i. record {
      tasks = a.tasks i;
      gates = a.gates i;
      states = states i;
      starts = starts i;
      moves = moves i;
      vectors = vectors i;
      masks = masks i;
    }

pub alike_same : (T U : Table) → Sized T → Sized U → sound_table T ≡ true → sound_table U ≡ true → Alike T U → T ≡ U
alike_same T U s z h k a = same_table T U (sound_rules T h) (sound_rules U k) a s z
