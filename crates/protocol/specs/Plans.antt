-- What the rules read of a table, for any number of tasks, gates and vectors.
use Rattle.std.specs.Prelude.{ℕ, Bool, cond, ◌&&◌, eqb, ltb, Option}

pub record Plan : Type 0 where
  pub tasks : ℕ
  pub gates : ℕ
  pub holds : ℕ → ℕ → ℕ → Bool  -- gate, vector, task: the task is in that vector
  pub ready : ℕ → ℕ → ℕ → Bool  -- task, state, gate
  pub target : ℕ → ℕ → ℕ → ℕ  -- task, state, gate: the state that the transition leads to
  pub start : ℕ → ℕ  -- task
  pub lowest : ℕ → ℕ → ℕ  -- gate, vector: its lowest task
  pub next_above : ℕ → ℕ → ℕ → Option ℕ  -- gate, vector, task: the vector's next higher task
  pub fitting : ℕ → (ℕ → Bool) → Option ℕ  -- gate, offers: its lowest numbered vector whose tasks are all in the offers

-- task t is in vector v of gate g, and lower than u
abbrev pub below : Plan → ℕ → ℕ → ℕ → ℕ → Bool
below P g v u t = P.holds g v t && ltb t u

-- A function changed at one number. A function of sender and receiver changed at one pair, where the sender, or the
-- receiver, is looked at first.
abbrev pub changed : {A : Type 0} → (ℕ → A) → ℕ → A → ℕ → A
changed f i a x = cond (eqb x i) a (f x)

abbrev pub changed_from : {A : Type 0} → (ℕ → ℕ → A) → ℕ → ℕ → A → ℕ → ℕ → A
changed_from f i j a x y = cond (eqb x i && eqb y j) a (f x y)

abbrev pub changed_to : {A : Type 0} → (ℕ → ℕ → A) → ℕ → ℕ → A → ℕ → ℕ → A
changed_to f i j a x y = cond (eqb y j && eqb x i) a (f x y)
