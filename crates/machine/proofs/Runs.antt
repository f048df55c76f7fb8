-- What makes a vector enabled, and what one more entry does to a log.
use Prim.Native.Nat.{ℕ, ◌<◌}
use mathlib.Core.Bool.{Bool, true, false, ◌||◌, not}
use mathlib.Core.List.{List, [], ◌∷◌, ◌++◌}
use mathlib.Core.Path.{◌≡◌, refl}
use lib.ListN.{get_or}
use borrow.Author.Tests.{lt-ltb}
use Rattle.std.proofs.lemmas.Bool.{and_from, and_parts}
use Rattle.laws.proofs.Numbers.{below_of}
use Rattle.table.specs.Tables.{ready_of}
use Rattle.table.specs.declared.Table.{Table}
use Rattle.machine.specs.Machine.{Entry, takes_part, enabled, fired, legal, replay}

module _ (T : Table) where
  pub enabled_of : (at : ℕ → ℕ) (g v : ℕ) → v < get_or T.vectors g 0
      → ((t : ℕ) → takes_part T g v t ≡ true → ready_of T.moves t (at t) g ≡ true) → enabled T at g v ≡ true
  unfolding enabled
  enabled_of at g v l ready =
      and_from _ _ (lt-ltb v (get_or T.vectors g 0) l) (below_of 16 _ (λ t _. turn t (takes_part T g v t) refl))
    where
      turn : (t : ℕ) (c : Bool) → takes_part T g v t ≡ c → (not c || ready_of T.moves t (at t) g) ≡ true
      turn t true e = ready t e
      turn t false e = refl

  pub replay_more : (at : ℕ → ℕ) (l : List Entry) (e : Entry) → replay T at (l ++ e ∷ []) ≡ fired T (replay T at l) e.gate e.vector
  unfolding replay
  replay_more at [] e = refl
  replay_more at (x ∷ l) e = replay_more (fired T at x.gate x.vector) l e

  pub legal_more : (at : ℕ → ℕ) (l : List Entry) (e : Entry)
      → legal T at l ≡ true → enabled T (replay T at l) e.gate e.vector ≡ true → legal T at (l ++ e ∷ []) ≡ true
  unfolding legal replay
  legal_more at [] e h k = rw k
  legal_more at (x ∷ l) e h k =
      let now : Bool = enabled T at x.gate x.vector in
      let later : Bool = legal T (fired T at x.gate x.vector) l in
      rw ((and_parts now later h).0) (legal_more (fired T at x.gate x.vector) l e ((and_parts now later h).1) k)
