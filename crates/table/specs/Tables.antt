-- What the parts of a table are, and a table with one more record.
use Rattle.std.specs.Prelude.{ℕ, ◌+◌, ◌-◌, ◌*◌, Bool, true, false, cond, ◌&&◌, not, List, eqb, ltb, leb, get_or, set, replicate, Option, Some, None}
use Rattle.laws.specs.Below.{all_below}
use Rattle.table.specs.declared.Table.{Table}

-- a table by its parts: of each task its states and start, the cells, of each gate how many vectors, and their masks
abbrev pub table_of : ℕ → ℕ → List ℕ → List ℕ → List ℕ → List ℕ → List ℕ → Table
table_of tasks gates states starts moves vectors masks =
    record { tasks = tasks; gates = gates; states = states; starts = starts; moves = moves; vectors = vectors; masks = masks }

-- "The empty table has 0 tasks and 0 gates."
abbrev pub empty_table : Table
empty_table = table_of 0 0 (replicate 16 0) (replicate 16 0) (replicate 4096 0) (replicate 16 0) (replicate 128 0)

-- a count of tasks, gates or states: "1 to 16 tasks, 1 to 16 gates, 1 to 16 states a task"
abbrev pub count_in : ℕ → Bool
count_in n = leb 1 n && leb n 16

-- the room for task t in state x at gate g, and its place
abbrev pub is_cell : ℕ → ℕ → ℕ → Bool
is_cell t x g = ltb t 16 && (ltb x 16 && ltb g 16)

abbrev pub cell_of : ℕ → ℕ → ℕ → ℕ
cell_of t x g = (t * 16 + x) * 16 + g

-- a cell's entry: 0 is no transition, and any other is one more than the state it leads to
abbrev pub coded : ℕ → Option ℕ
coded n = cond (ltb 0 n) (Some (n - 1)) None

-- where task t in state x goes at gate g: "ready at gate g exactly when a transition (t, s, g) exists"
abbrev pub move_of : List ℕ → ℕ → ℕ → ℕ → Option ℕ
move_of moves t x g = cond (is_cell t x g) (coded (get_or moves (cell_of t x g) 0)) None

abbrev pub is_move : Option ℕ → Bool
is_move None = false
is_move (Some y) = true

abbrev pub ready_of : List ℕ → ℕ → ℕ → ℕ → Bool
ready_of moves t x g = is_move (move_of moves t x g)

-- the mask of vector v of gate g; 0 is no vector
abbrev pub mask_of : List ℕ → ℕ → ℕ → ℕ
mask_of masks g v = cond (ltb v 8) (get_or masks (g * 8 + v) 0) 0

-- the mask is none of the first n at gate g
unfoldable pub new_below : List ℕ → ℕ → ℕ → ℕ → Bool
new_below masks g n mask = all_below n (λ (v : ℕ). not (eqb (mask_of masks g v) mask))

-- The table with the counts; with a task; with a transition; with one more vector. What finds no room is left out.
abbrev pub with_counts : Table → ℕ → ℕ → Table
with_counts T tasks gates = table_of tasks gates T.states T.starts T.moves T.vectors T.masks

abbrev pub with_states : Table → ℕ → ℕ → ℕ → Table
with_states T t states start =
    table_of T.tasks T.gates (set T.states t states) (set T.starts t start) T.moves T.vectors T.masks

abbrev pub with_moves : Table → List ℕ → Table
with_moves T moves = table_of T.tasks T.gates T.states T.starts moves T.vectors T.masks

abbrev pub with_move : Table → ℕ → ℕ → ℕ → ℕ → Table
with_move T t x g y = cond (is_cell t x g && ltb y 16) (with_moves T (set T.moves (cell_of t x g) (y + 1))) T

abbrev pub with_masks : Table → List ℕ → List ℕ → Table
with_masks T vectors masks = table_of T.tasks T.gates T.states T.starts T.moves vectors masks

abbrev pub with_vector : Table → ℕ → ℕ → Table
with_vector T g m =
    cond (ltb (get_or T.vectors g 0) 8)
    (with_masks T (set T.vectors g (get_or T.vectors g 0 + 1)) (set T.masks (g * 8 + get_or T.vectors g 0) m))
    T
