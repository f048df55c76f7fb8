-- Legal runs of any plan. The simple machine of a table stands in crate machine.
use Rattle.std.specs.Prelude.{ℕ, true, cond, List, [], ◌∷◌, ◌≡◌}
use Rattle.channels.specs.declared.Request.{Request}
use Rattle.protocol.specs.Plans.{Plan}
use Rattle.protocol.specs.Lines.{request}

-- "Firing it moves all its tasks at once."
abbrev pub fire : Plan → (ℕ → ℕ) → ℕ → ℕ → ℕ → ℕ
fire P at g v t = cond (P.holds g v t) (P.target t (at t) g) (at t)

-- a log, its newest entry first, is legal from the start states and leads to these: each entry's vector had a task,
-- and every task in it was ready
pub data Legal (P : Plan) : List Request → (ℕ → ℕ) → Type 0 where
  start : Legal P [] P.start
  fired : {l : List Request} {at : ℕ → ℕ} (g v b : ℕ) → Legal P l at → P.holds g v b ≡ true
      → ((t : ℕ) → P.holds g v t ≡ true → P.ready t (at t) g ≡ true) → Legal P (request g v ∷ l) (fire P at g v)
