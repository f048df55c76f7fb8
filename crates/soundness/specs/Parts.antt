-- Rules of one task, which have functions of their own. The interface does not speak of them.
use Rattle.std.specs.Prelude.{ℕ, ◌+◌, ◌*◌, Bool, cond, ◌&&◌, List, eqb, ltb, leb, get_or}
use Rattle.laws.specs.Below.{all_below}
use Rattle.table.specs.Tables.{count_in, cell_of}
use Rattle.table.specs.declared.Table.{Table}
use Rattle.soundness.specs.Sound.{most_at}

-- a task's states and start
abbrev pub task_fits : Bool → ℕ → ℕ → Bool
task_fits present states start = cond present (count_in states && ltb start states) (eqb states 0 && eqb start 0)

-- the cells of a row, one a gate, by their limits; outside all are 0
abbrev pub row_fits : List ℕ → ℕ → Bool → List ℕ → Bool
row_fits moves row inside limits =
    all_below 16 (λ (g : ℕ). leb (get_or moves (row * 16 + g) 0) (cond inside (get_or limits g 0) 0))

-- the moves of task t
abbrev pub moves_fit : Table → ℕ → Bool
moves_fit T t = all_below 16 (λ (x : ℕ). all_below 16 (λ (g : ℕ). leb (get_or T.moves (cell_of t x g) 0) (most_at T t x g)))
