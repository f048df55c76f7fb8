-- "What a delivery does", over any plan: the steps composed.
use Rattle.std.specs.Prelude.{ℕ, Bool, true, false, cond, List, [], ◌∷◌, ◌++◌, Option, None, Some}
use Rattle.channels.specs.declared.Request.{Request}
use Rattle.protocol.specs.Lines.{Line}
use Rattle.protocol.specs.Plans.{Plan}
use Rattle.protocol.specs.Steps.{with_list, forwarded, result_sent, entered, moved, released, dealt}
use Rattle.state.specs.declared.Deal.{Deal}
use Rattle.state.specs.declared.Deal.TheVariants.{Idle, Dealing}
use Rattle.tasks.specs.Tasks.{is_free}

module _ (P : Plan) where
  -- a Free task handles a lock request of gate g for vector v: forwards it, or decides
  abbrev pub accepted : Line → ℕ → ℕ → ℕ → Option ℕ → Line
  accepted s g v b (Some c) = forwarded s g v b c
  accepted s g v b None = moved P (entered (result_sent P s g v b true) g v) b (P.target b (s.at b) g)

  abbrev pub handled_by : Line → ℕ → ℕ → ℕ → Bool → Line
  handled_by s g v b true = accepted s g v b (P.next_above g v b)
  handled_by s g v b false = result_sent P s g v b false

  abbrev pub handled : Line → ℕ → Request → Line
  handled s b r = handled_by s r.gate.0 r.vector b (P.ready b (s.at b) r.gate.0)

  -- "The list is handled from the front, for as long as the task is Free"
  abbrev pub list_handled : Line → ℕ → List Request → Line
  list_handled s b [] = s
  list_handled s b (r ∷ l) = cond (is_free (s.mode b)) (list_handled (handled (with_list s b l) b r) b l) s

  -- "LOCK: a Held task puts it last on its waiting list; a Free one handles it."
  abbrev pub locked : Line → ℕ → Request → Line
  locked s b r = cond (is_free (s.mode b)) (handled s b r) (with_list s b (s.waiting b ++ r ∷ []))

  -- t is Free by u's COMMIT, along its transition for gate g, or by u's ABORT
  abbrev pub freed : Line → ℕ → ℕ → ℕ → Bool → Line
  freed s u t g true = moved P (released s u t) t (P.target t (s.at t) g)
  freed s u t g false = released s u t

  -- "a gate that is Idle searches"
  abbrev pub dealt_if : Line → ℕ → Option ℕ → Line
  dealt_if s g None = s
  dealt_if s g (Some v) = dealt P s g v (P.lowest g v)

  abbrev pub searched_by : Line → ℕ → Deal → Line
  searched_by s g Idle = dealt_if s g (P.fitting g (s.offers g))
  searched_by s g (Dealing v) = s

  abbrev pub searched : Line → ℕ → Line
  searched s g = searched_by s g (s.deal g)
