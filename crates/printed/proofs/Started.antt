-- A line that is started fresh by a sound table needs no question of number 11.
use Prim.Native.Nat.{ℕ}
use mathlib.Core.Bool.{true}
use mathlib.Core.List.{List}
use mathlib.Core.Path.{◌≡◌}
use lib.ListN.{length}
use Rattle.table.specs.declared.Table.{Table}
use Rattle.soundness.specs.Sound.{sound_table}
use Rattle.fresh.specs.Fresh.{fresh_state, fresh}
use Rattle.kept.proofs.Fresh.{fresh_sized, fresh_all_sound}
use Rattle.run.specs.Run.{course_begun, course, delivered_by, stepped_by}
use Rattle.run.proofs.Same.{same_course}

pub fresh_course : (T : Table) → sound_table T ≡ true → length T.vectors ≡ 16 → (file log : List ℕ) (count : ℕ)
    → course (delivered_by T) file count (course_begun (fresh T).state log)
    ≡ course (stepped_by T.moves T.vectors T.masks T.tasks T.gates) file count (course_begun (fresh T).state log)
unfolding fresh
fresh_course T h room file log count =
    rw h (same_course T room (fresh_state T) log (fresh_sized T h) (fresh_all_sound T h log) file count)
