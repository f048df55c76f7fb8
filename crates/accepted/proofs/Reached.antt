-- What holds wherever the reading of a table file comes to.
use Prim.Native.Nat.{ℕ, suc, zero, ◌+◌, ◌*◌, ◌<◌, ◌≤◌}
use mathlib.Core.Bool.{true, cond, ◌&&◌}
use mathlib.Core.Path.{◌≡◌}
use native.Mathlib.Omega.{arith}
use lib.Dec.{ltb}
use lib.ListN.{get_or, length}
use Rattle.table.specs.Tables.{count_in, cell_of, empty_table}
use Rattle.table.specs.declared.Table.{Table}
use Rattle.soundness.specs.Parts.{task_fits}
use Rattle.soundness.specs.Sound.{most_at, vector_fits}
use Rattle.soundness.proofs.Rules.{count_le}
use Rattle.reader.specs.Parts.{none_came}
use Rattle.reader.specs.declared.Progress.{Progress}

-- the table's lists have the lengths of its arrays
pub record Sized (T : Table) : Type 0 where
  pub states : length T.states ≡ 16
  pub starts : length T.starts ≡ 16
  pub moves : length T.moves ≡ 4096
  pub vectors : length T.vectors ≡ 16
  pub masks : length T.masks ≡ 128

-- the rules of a sound table, of those records that have come
abbrev pub TasksFit : Table → ℕ → Type 0
TasksFit T came = (t : ℕ) → task_fits (ltb t came) (get_or T.states t 0) (get_or T.starts t 0) ≡ true

abbrev pub MovesFit : Table → Type 0
MovesFit T = (t x g : ℕ) → x < 16 → g < 16 → get_or T.moves (cell_of t x g) 0 ≤ most_at T t x g

abbrev pub CountsFit : Table → Type 0
CountsFit T = (g : ℕ) → get_or T.vectors g 0 ≤ cond (ltb g T.gates) 8 0

abbrev pub MasksFit : Table → Type 0
MasksFit T = (g v : ℕ) → v < 8 → vector_fits T.masks g (get_or T.vectors g 0) T.tasks v ≡ true

-- bytes of the system record, where it has come
abbrev pub system_bytes : ℕ → ℕ
system_bytes zero = 0
system_bytes (suc kind) = 6

pub record Reached (at : ℕ) (T : Table) (p : Progress) : Type 0 where
  pub begun : p.kind ≡ 0 → (T ≡ empty_table) × (p ≡ none_came)
  pub counted : (p.kind ≡ 0 → ⊥) → (count_in T.tasks && count_in T.gates) ≡ true
  pub tasks : T.tasks ≤ 16
  pub gates : T.gates ≤ 16
  pub came : p.came ≤ T.tasks
  pub sized : Sized T
  pub tasks_fit : TasksFit T p.came
  pub moves_fit : MovesFit T
  pub counts_fit : CountsFit T
  pub masks_fit : MasksFit T
  pub floor : p.floor ≤ 4096
  pub gate : p.gate.0 < 16
  -- each record that came raised one of the four by what it took
  pub size : at ≤ system_bytes p.kind + 7 * p.came + 8 * p.floor + 7 * (8 * p.gate.0 + get_or T.vectors p.gate.0 0)

pub system_le : (kind : ℕ) → system_bytes kind ≤ 6
system_le zero = omega arith
system_le (suc kind) = omega arith

-- the furthest that a reading comes: the largest table
pub furthest : (at : ℕ) (T : Table) (p : Progress) → Reached at T p → at ≤ 33782
furthest at T p r =
    let n : get_or T.vectors p.gate.0 0 ≤ 8 = count_le (ltb p.gate.0 T.gates) (get_or T.vectors p.gate.0 0) (r.counts_fit p.gate.0) in
    omega (arith, r.size, r.came, r.tasks, r.floor, r.gate, system_le p.kind)
