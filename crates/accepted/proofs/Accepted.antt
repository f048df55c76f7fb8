-- What is true of every table file that is accepted.
use Rattle.std.specs.Prelude.{Ok, Err}
use Prim.Native.Nat.{ℕ, ◌/◌, ◌%◌, ◌<◌, ◌≤◌}
use mathlib.Core.Bool.{Bool, true, false, cond, ◌||◌, true≢false}
use mathlib.Core.List.{List}
use mathlib.Core.Logic.{⊎_elim}
use mathlib.Core.Path.{◌≡◌, refl, sym, ap, ◌∙◌, subst}
use native.Mathlib.Omega.{arith}
use lib.Dec.{eqb, ltb}
use lib.ListN.{get_or, length}
use borrow.Author.Tests.{eqb-false, ltb-false, le-leb}
use Rattle.answers.specs.Answers.{is_done}
use Rattle.answers.specs.declared.Refusal.TheVariants.{Missing}
use Rattle.laws.proofs.Numbers.{below_of, each_of}
use Rattle.std.proofs.lemmas.Bool.{and_from, or_parts}
use Rattle.table.specs.Tables.{cell_of}
use Rattle.table.specs.declared.Table.{Table}
use Rattle.soundness.specs.Sound.{task_entry_sound, most_at, moves_sound, vector_fits, gate_entry_sound, sound_table}
use Rattle.soundness.proofs.Rows.{move_sound}
use Rattle.reader.specs.declared.Loading.{Loading}
use Rattle.reader.specs.Reader.{refused_of, ended_of, read_of}
use Rattle.reader.specs.declared.Loaded.{Loaded}
use Rattle.reader.specs.declared.Progress.{Progress}
use Rattle.accepted.proofs.Reached.{Reached, Sized, MovesFit, furthest}
use Rattle.accepted.proofs.Records.{EndsWell, EndsRefused, ends}

moves_sound_lem : (T : Table) → length T.moves ≡ 4096 → MovesFit T → moves_sound T ≡ true
unfolding moves_sound
moves_sound_lem T l f = each_of (move_sound T) T.moves (λ (i : ℕ) (h : i < length T.moves).
    let x : i / 16 % 16 < 16 = omega arith in
    let g : i % 16 < 16 = omega arith in
    let q : i / 256 ≡ i / 16 / 16 = omega arith in
    let e : cell_of (i / 256) (i / 16 % 16) (i % 16) ≡ i = omega arith in
    le-leb _ _ (subst (λ (n : ℕ). get_or T.moves n 0 ≤ most_at T (i / 256) (i / 16 % 16) (i % 16)) e (f (i / 256) (i / 16 % 16) (i % 16) x g)))

-- at the end, when all tasks have come
sound_at_end : (at : ℕ) (T : Table) (p : Progress) → Reached at T p → (eqb p.kind 0 || ltb p.came T.tasks) ≡ false → sound_table T ≡ true
unfolding sound_table
sound_at_end at T p r h =
    let k : p.kind ≡ 0 → ⊥ = eqb-false p.kind 0 ((or_parts (eqb p.kind 0) (ltb p.came T.tasks) h).0) in
    let c : T.tasks ≤ p.came = ltb-false p.came T.tasks ((or_parts (eqb p.kind 0) (ltb p.came T.tasks) h).1) in
    let e : p.came ≡ T.tasks = omega (arith, r.came) in
    and_from _ _ (r.counted k)
    (and_from _ _ (below_of 16 (task_entry_sound T) (λ (t : ℕ) (_ : t < 16). rw e at (r.tasks_fit t)))
    (and_from _ _ (moves_sound_lem T r.sized.moves r.moves_fit)
    (below_of 16 (gate_entry_sound T) (λ (g : ℕ) (_ : g < 16). and_from _ _ (le-leb _ _ (r.counts_fit g)) (below_of 8 (vector_fits T.masks g (get_or T.vectors g 0) T.tasks) (r.masks_fit g))))))

ended_done : (n : ℕ) (l : Loading) → is_done (ended_of n l).answer ≡ true
    → ((eqb l.progress.kind 0 || ltb l.progress.came l.table.tasks) ≡ false) × ((ended_of n l).table ≡ l.table)
unfolding ended_of
ended_done n l d = turn (eqb l.progress.kind 0 || ltb l.progress.came l.table.tasks) refl d
  where
    turn : (t : Bool) → (eqb l.progress.kind 0 || ltb l.progress.came l.table.tasks) ≡ t
        → is_done (cond t (refused_of (Err Missing) n) (record { table = l.table; answer = Ok tt; place = n })).answer ≡ true
        → ((eqb l.progress.kind 0 || ltb l.progress.came l.table.tasks) ≡ false)
        × ((cond t (refused_of (Err Missing) n) (record { table = l.table; answer = Ok tt; place = n })).table ≡ l.table)
    turn true e d = absurd (true≢false (sym d))
    turn false e d = (e, refl)

-- an accepted file was read to its end
module _ (file : List ℕ) (d : is_done (read_of file).answer ≡ true) where
  whole : EndsWell file
  whole = ⊎_elim (λ (e : EndsWell file). e)
      (λ (e : EndsRefused file). absurd (true≢false (sym d ∙ ap (λ (r : Loaded). is_done r.answer) e.is ∙ e.faulty)))
      (ends file)

  last_done : is_done (ended_of (length file) whole.last).answer ≡ true
  last_done = subst (λ (r : Loaded). is_done r.answer ≡ true) whole.is d

  last_table : (read_of file).table ≡ whole.last.table
  last_table = ap (λ (r : Loaded). r.table) whole.is ∙ (ended_done (length file) whole.last last_done).1

  pub accepted_sound : sound_table (read_of file).table ≡ true
  accepted_sound =
      subst (λ (T : Table). sound_table T ≡ true) (sym last_table)
      (sound_at_end whole.at whole.last.table whole.last.progress whole.held (ended_done (length file) whole.last last_done).0)

  pub accepted_sized : Sized (read_of file).table
  accepted_sized = subst Sized (sym last_table) whole.held.sized

  -- "The largest table is 33,782 bytes."
  pub accepted_size : length file ≤ 33782
  accepted_size = let e = whole in omega (arith, e.all, furthest e.at e.last.table e.last.progress e.held)
