-- Where 11 is not given the log count is within the capacity.
use Prim.Native.Nat.{ℕ, ◌/◌, ◌≤◌}
use mathlib.Core.Bool.{Bool, true, ◌&&◌}
use mathlib.Core.Path.{◌≡◌}
use lib.Dec.{leb}
use borrow.Author.Tests.{leb-true}
use Rattle.std.proofs.lemmas.Bool.{and_parts}
use Rattle.table.specs.declared.Table.{Table}
use Rattle.soundness.specs.Sound.{sound_table}
use Rattle.sound_state.specs.SoundState.{sound_state}
use Rattle.state.specs.declared.State.{State}
use Rattle.delivery.specs.Delivery.{sound_for}

pub count_fits : (T : Table) (s : State) (n : ℕ) → sound_for T s n ≡ true → s.logged ≤ n / 2
unfolding sound_for
count_fits T s n h =
    let parts : Bool = sound_state T.vectors T.masks T.tasks T.gates T.states s in
    leb-true s.logged (n / 2)
    ((and_parts parts (leb s.logged (n / 2)) ((and_parts (sound_table T) (parts && leb s.logged (n / 2)) h).1)).1)
