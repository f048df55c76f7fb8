-- "11 covers the table's rules above .. absent parties and unused room, the table's too, are empty."
use Rattle.std.specs.Prelude.{ℕ, ◌/◌, ◌%◌, Bool, cond, ◌&&◌, not, List, eqb, ltb, leb, get_or}
use Rattle.laws.specs.Below.{all_below}
use Rattle.laws.specs.Each.{all_from}
use Rattle.sets.specs.Sets.{all_below_of}
use Rattle.table.specs.Tables.{count_in, mask_of, new_below}
use Rattle.table.specs.declared.Table.{Table}

-- a task's states and start: a present task's count in its bounds and its start below it, an absent one's empty
abbrev pub task_entry_sound : Table → ℕ → Bool
task_entry_sound T t =
    let states = get_or T.states t 0 in let start = get_or T.starts t 0 in
    cond (ltb t T.tasks) (count_in states && ltb start states) (eqb states 0 && eqb start 0)

-- the most that the cell of task t, state x and gate g holds: a transition has a present state, gate and target
abbrev pub most_at : Table → ℕ → ℕ → ℕ → ℕ
most_at T t x g = cond (ltb x (get_or T.states t 0) && ltb g T.gates) (get_or T.states t 0) 0

-- cell i is that of task i / 256, state i / 16 % 16 and gate i % 16
unfoldable pub moves_sound : Table → Bool
moves_sound T = all_from (λ (i n : ℕ). leb n (most_at T (i / 256) (i / 16 % 16) (i % 16))) 0 T.moves

-- vector v of gate g: a mask "neither 0 nor names an absent task", and none before it at that gate; else empty
abbrev pub vector_fits : List ℕ → ℕ → ℕ → ℕ → ℕ → Bool
vector_fits masks g count tasks v =
    cond (ltb v count)
    (not (eqb (mask_of masks g v) 0) && (all_below_of (mask_of masks g v) tasks && new_below masks g v (mask_of masks g v)))
    (eqb (mask_of masks g v) 0)

-- "0 to 8 vectors a gate", none at an absent one
abbrev pub gate_entry_sound : Table → ℕ → Bool
gate_entry_sound T g = let n = get_or T.vectors g 0 in leb n (cond (ltb g T.gates) 8 0) && all_below 8 (vector_fits T.masks g n T.tasks)

unfoldable pub sound_table : Table → Bool
sound_table T =
    (count_in T.tasks && count_in T.gates)
    && (all_below 16 (task_entry_sound T) && (moves_sound T && all_below 16 (gate_entry_sound T)))
