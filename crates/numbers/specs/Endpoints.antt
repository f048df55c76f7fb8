-- "In a delivery, endpoints 0 to 15 are tasks and 16 to 31 are gates 0 to 15."
use Rattle.std.specs.Prelude.{ℕ, ◌-◌, cond, ltb, Option, Some, None}
use Rattle.numbers.specs.declared.Endpoint.{Endpoint}
use Rattle.numbers.specs.declared.Endpoint.TheVariants.{Task, Gate}

-- who stands at endpoint e of a line with these many tasks and gates
abbrev pub endpoint_of : ℕ → ℕ → ℕ → Option Endpoint
endpoint_of tasks gates e =
    cond (ltb e 16) (cond (ltb e tasks) (Some (Task (record { 0 = e }))) None)
    (cond (ltb e 32) (cond (ltb (e - 16) gates) (Some (Gate (record { 0 = e - 16 }))) None)
    None)
