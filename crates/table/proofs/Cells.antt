-- Where a cell lies among the moves, and that its move tells its entry.
use Rattle.std.specs.Prelude.{Option, Some, None}
use Prim.Native.Nat.{ℕ, ◌+◌, ◌<◌, ◌≤◌}
use mathlib.Core.Bool.{true, false, ◌&&◌}
use mathlib.Core.List.{List}
use mathlib.Core.Logic.{⊎_elim}
use mathlib.Core.Path.{◌≡◌, refl}
use native.Mathlib.Omega.{arith}
use lib.Dec.{ltb}
use lib.ListN.{get_or}
use borrow.Author.Tests.{ltb-true, lt-ltb, le-ltb}
use Rattle.std.proofs.lemmas.Bool.{and_parts, and_right}
use Rattle.laws.proofs.Tests.{le_or_lt}
use Rattle.table.specs.Tables.{is_cell, cell_of, coded, move_of, ready_of}

pub record InRoom (t x g : ℕ) : Type 0 where
  pub task : t < 16
  pub state : x < 16
  pub gate : g < 16

pub in_room : (t x g : ℕ) → is_cell t x g ≡ true → InRoom t x g
in_room t x g h =
    let k : (ltb x 16 && ltb g 16) ≡ true = (and_parts (ltb t 16) (ltb x 16 && ltb g 16) h).1 in
    record {
      task = ltb-true t 16 ((and_parts (ltb t 16) (ltb x 16 && ltb g 16) h).0);
      state = ltb-true x 16 ((and_parts (ltb x 16) (ltb g 16) k).0);
      gate = ltb-true g 16 ((and_parts (ltb x 16) (ltb g 16) k).1);
    }

pub cell_below : (t x g : ℕ) → is_cell t x g ≡ true → cell_of t x g < 4096
cell_below t x g h = let r : InRoom t x g = in_room t x g h in omega arith

pub is_cell_lem : (t x g : ℕ) → t < 16 → x < 16 → g < 16 → is_cell t x g ≡ true
is_cell_lem t x g a b c = rw (lt-ltb t 16 a, lt-ltb x 16 b, lt-ltb g 16 c)

-- the entry that codes a move
abbrev pub entry_of : Option ℕ → ℕ
entry_of None = 0
entry_of (Some y) = y + 1

entry_coded : (n : ℕ) → entry_of (coded n) ≡ n
entry_coded n = ⊎_elim
    (λ (h : n ≤ 0). rw (le-ltb 0 n h) (omega arith))
    (λ (h : 0 < n). rw (lt-ltb 0 n h) (omega arith))
    (le_or_lt n 0)

pub entry_at : (moves : List ℕ) (t x g : ℕ) → is_cell t x g ≡ true → entry_of (move_of moves t x g) ≡ get_or moves (cell_of t x g) 0
entry_at moves t x g h = rw h (entry_coded (get_or moves (cell_of t x g) 0))

-- at a gate that there is not no task is ready
pub not_ready : (moves : List ℕ) (t x g : ℕ) → 16 ≤ g → ready_of moves t x g ≡ false
not_ready moves t x g h =
    rw (le-ltb g 16 h, and_right (ltb x 16) false refl, and_right (ltb t 16) false refl)
