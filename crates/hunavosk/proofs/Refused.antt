-- 0 is given back only where the text's buffer is too short, and then neither buffer is changed.
use Prim.Native.Nat.{ℕ, ◌<◌}
use mathlib.Core.Bool.{Bool, true, false, cond}
use mathlib.Core.List.{List}
use mathlib.Core.Path.{◌≡◌, refl}
use native.Mathlib.Omega.{arith}
use lib.Dec.{ltb}
use lib.ListN.{length}
use borrow.Author.Tests.{ltb-true}
use Rattle.printed.specs.Printed.{printed}
use Rattle.room.specs.Rooms.{room_for}
use Rattle.room.proofs.Room.{text_some}
use Rattle.hunavosk.specs.Calls.{Call, refused, filled, called}

module _ (table schedule log text : List ℕ) where
  pub record Refused (c : Call) : Type 0 where
    pub short : length text < room_for (length log)
    pub unchanged : c ≡ refused log text

  abbrev either : Bool → Call
  either b = cond b (refused log text) (filled (printed table schedule log) text)

  pub zero_refuses : (called table schedule log text).count ≡ 0 → Refused (called table schedule log text)
  unfolding called
  zero_refuses = turn (ltb (length text) (room_for (length log))) refl
    where
      turn : (b : Bool) → ltb (length text) (room_for (length log)) ≡ b → (either b).count ≡ 0 → Refused (either b)
      turn true e h = record { short = ltb-true (length text) (room_for (length log)) e; unchanged = refl }
      turn false e h = absurd (omega (arith, text_some table schedule log))
