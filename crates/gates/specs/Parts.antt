-- The parts of a result at a gate that have a function of their own. The interface does not speak of them.
use Rattle.std.specs.Prelude.{ℕ, cond, List, ltb, Option, Some, None}
use Rattle.sets.specs.Sets.{member_of}
use Rattle.table.specs.Tables.{mask_of}
use Rattle.state.specs.declared.Deal.{Deal}
use Rattle.state.specs.declared.Deal.TheVariants.{Idle, Dealing}
use Rattle.state.specs.declared.Gate.{Gate}
use Rattle.gates.specs.Gates.{excluded, offering, searched, fitting}
use Rattle.gates.specs.declared.Work.{Work}

-- the mask of the vector that gate g deals; an Idle gate deals none, and nobody is in 0
abbrev pub dealt_mask : List ℕ → ℕ → Deal → ℕ
dealt_mask masks g Idle = 0
dealt_mask masks g (Dealing v) = mask_of masks g v

-- a result by task t, where the dealt vector has the mask and these are the offers after it
abbrev pub ended_with : List ℕ → ℕ → ℕ → ℕ → Gate → ℕ → ℕ → Work
ended_with masks vectors g t k mask offers =
    cond (member_of mask t) (searched masks vectors g (offering k offers Idle)) (excluded k)

-- the lowest vector whose tasks are all in the offers, if there is one
abbrev pub fitting_vector : List ℕ → ℕ → ℕ → ℕ → Option ℕ
fitting_vector masks vectors g offers =
    let v = fitting masks vectors g offers in cond (ltb v vectors) (Some v) None
