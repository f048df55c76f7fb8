-- "Table E, 73 bytes", record by record.
use Rattle.std.specs.Prelude.{ℕ, List, [], ◌∷◌, ◌++◌}
use Rattle.schedule.specs.declared.Delivery.{Delivery}

abbrev pub system : List ℕ
system = 2 ∷ 0 ∷ 1 ∷ 0 ∷ 3 ∷ 2 ∷ []

abbrev pub first_tasks : List ℕ
first_tasks = 3 ∷ 0 ∷ 2 ∷ 0 ∷ 0 ∷ 1 ∷ 0 ∷ 3 ∷ 0 ∷ 2 ∷ 0 ∷ 1 ∷ 2 ∷ 0 ∷ []

abbrev pub third_task : List ℕ
third_task = 3 ∷ 0 ∷ 2 ∷ 0 ∷ 2 ∷ 1 ∷ 0 ∷ []

abbrev pub transitions : List ℕ
transitions =
    4 ∷ 0 ∷ 3 ∷ 0 ∷ 0 ∷ 0 ∷ 0 ∷ 0
    ∷ 4 ∷ 0 ∷ 3 ∷ 0 ∷ 1 ∷ 0 ∷ 0 ∷ 1
    ∷ 4 ∷ 0 ∷ 3 ∷ 0 ∷ 1 ∷ 0 ∷ 1 ∷ 1
    ∷ 4 ∷ 0 ∷ 3 ∷ 0 ∷ 2 ∷ 0 ∷ 1 ∷ 0 ∷ []

-- the two vectors, with the last mask
abbrev pub vectors : ℕ → List ℕ
vectors mask = 3 ∷ 0 ∷ 4 ∷ 0 ∷ 0 ∷ 3 ∷ 0 ∷ 3 ∷ 0 ∷ 4 ∷ 0 ∷ 1 ∷ mask ∷ 0 ∷ []

abbrev pub with_last_mask : ℕ → List ℕ
with_last_mask mask = system ++ (first_tasks ++ (third_task ++ (transitions ++ vectors mask)))

abbrev pub without_third_task : List ℕ
without_third_task = system ++ (first_tasks ++ (transitions ++ vectors 6))

abbrev pub table_e : List ℕ
table_e = with_last_mask 6

-- "Schedule: 0-16, 1-16, .."
abbrev pub pair : ℕ → ℕ → Delivery
pair from to = record { from = from; to = to }

abbrev pub schedule : List Delivery
schedule =
    pair 0 16 ∷ pair 1 16 ∷ pair 1 17 ∷ pair 2 17 ∷ pair 16 0 ∷ pair 17 1 ∷ pair 0 1 ∷ pair 1 2 ∷ pair 2 1 ∷ pair 1 0
    ∷ pair 1 16 ∷ pair 2 17 ∷ pair 2 17 ∷ []
