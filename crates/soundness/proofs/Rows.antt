-- The moves by rows: the pass over all cells is one over the tasks, their states and the gates.
use Prim.Native.Nat.{ℕ, ◌+◌, ◌*◌, ◌/◌, ◌%◌, ◌<◌}
use mathlib.Core.Bool.{Bool, true, false, cond, ◌&&◌}
use mathlib.Core.List.{List}
use mathlib.Core.Path.{◌≡◌, refl, ap, ◌∙◌}
use native.Mathlib.Omega.{arith}
use lib.Dec.{ltb, leb}
use lib.ListN.{get_or, length}
use Rattle.laws.specs.Below.{all_below}
use Rattle.laws.proofs.Numbers.{below_same, below_rows, each_below}
use Rattle.table.specs.Tables.{cell_of}
use Rattle.table.specs.declared.Table.{Table}
use Rattle.soundness.specs.Sound.{most_at, moves_sound}
use Rattle.soundness.specs.Parts.{row_fits, moves_fit}

-- cell i holds n
abbrev pub move_sound : Table → ℕ → ℕ → Bool
move_sound T i n = leb n (most_at T (i / 256) (i / 16 % 16) (i % 16))

pub cell_sound : (T : Table) (t x g n : ℕ) → x < 16 → g < 16 → move_sound T (cell_of t x g) n ≡ leb n (most_at T t x g)
cell_sound T t x g n hx hg =
    let a : cell_of t x g / 256 ≡ t = omega arith in
    let b : cell_of t x g / 16 % 16 ≡ x = omega arith in
    let c : cell_of t x g % 16 ≡ g = omega arith in
    rw (a, b, c)

pub moves_by_task : (T : Table) → length T.moves ≡ 4096 → moves_sound T ≡ all_below 16 (moves_fit T)
unfolding moves_sound
moves_by_task T l =
    let cell : ℕ → Bool = λ i. move_sound T i (get_or T.moves i 0) in
    each_below (move_sound T) T.moves
    ∙ ap (λ (n : ℕ). all_below n cell) l
    ∙ below_rows 256 16 cell
    ∙ below_rows 16 16 (λ (row : ℕ). all_below 16 (λ (g : ℕ). cell (row * 16 + g)))
    ∙ below_same 16 _ _ (λ (t : ℕ) (_ : t < 16). below_same 16 _ _ (λ (x : ℕ) (hx : x < 16). below_same 16 _ _
    (λ (g : ℕ) (hg : g < 16). cell_sound T t x g (get_or T.moves (cell_of t x g) 0) hx hg)))

-- limits by gate give those of `most_at`
pub rows_fit : (T : Table) (t : ℕ) (limits : List ℕ)
    → ((g : ℕ) → g < 16 → get_or limits g 0 ≡ cond (ltb g T.gates) (get_or T.states t 0) 0)
    → all_below 16 (λ (x : ℕ). row_fits T.moves (t * 16 + x) (ltb x (get_or T.states t 0)) limits) ≡ moves_fit T t
rows_fit T t limits h =
    below_same 16 _ _ (λ (x : ℕ) (_ : x < 16). below_same 16 _ _ (λ (g : ℕ) (k : g < 16).
    ap (leb (get_or T.moves (cell_of t x g) 0)) (most (ltb x (get_or T.states t 0)) g k)))
  where
    most : (b : Bool) (g : ℕ) → g < 16 → cond b (get_or limits g 0) 0 ≡ cond (b && ltb g T.gates) (get_or T.states t 0) 0
    most true g k = h g k
    most false g k = refl
