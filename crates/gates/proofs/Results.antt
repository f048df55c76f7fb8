-- A result by the mask of the dealt vector: an Idle gate has none, and nobody is in it.
use Prim.Native.Nat.{ℕ}
use mathlib.Core.List.{List}
use mathlib.Core.Path.{◌≡◌, refl}
use native.Mathlib.Omega.{arith}
use Rattle.sets.proofs.Members.{no_member}
use Rattle.state.specs.declared.Deal.{Deal}
use Rattle.state.specs.declared.Deal.TheVariants.{Idle, Dealing}
use Rattle.state.specs.declared.Gate.{Gate}
use Rattle.gates.specs.Gates.{ended}
use Rattle.gates.specs.Parts.{dealt_mask, ended_with}

pub ended_mask : (masks : List ℕ) (vectors g t : ℕ) (offers : ℕ → ℕ → ℕ) (k : Gate) (deal : Deal)
    → ended masks vectors g t offers k deal
    ≡ ended_with masks vectors g t k (dealt_mask masks g deal) (offers k.offers (dealt_mask masks g deal))
ended_mask masks vectors g t offers k Idle = rw (no_member 0 0 t (omega arith) (omega arith))
ended_mask masks vectors g t offers k (Dealing v) = refl
