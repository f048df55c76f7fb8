-- "At a gate, from task t": what a message does there.
use Rattle.std.specs.Prelude.{ℕ, true, false, cond, List, ltb, Option, Some, None}
use Rattle.laws.specs.Below.{first_from}
use Rattle.sets.specs.Sets.{member_of, subset_of, union_of, minus_of, with_of, without_of, lowest_of}
use Rattle.numbers.specs.declared.TaskNo.{TaskNo}
use Rattle.table.specs.Tables.{mask_of}
use Rattle.channels.specs.declared.Message.{Message}
use Rattle.channels.specs.declared.Message.TheVariants.{Ready, Lock, Commit, Abort}
use Rattle.state.specs.States.{put_down}
use Rattle.state.specs.declared.Deal.{Deal}
use Rattle.state.specs.declared.Deal.TheVariants.{Idle, Dealing}
use Rattle.state.specs.declared.Gate.{Gate}
use Rattle.gates.specs.declared.Work.{Work}

abbrev pub allowed : Gate → Work
allowed k = record { gate = k; ok = true }

abbrev pub excluded : Gate → Work
excluded k = record { gate = k; ok = false }

-- the gate with these offers, dealing so
abbrev pub offering : Gate → ℕ → Deal → Gate
offering k offers deal = record { offers = offers; deal = deal; down = k.down }

-- a message to a task: a full channel stays as it is, and is not allowed
abbrev pub sent_down : Gate → Option TaskNo → Message → Work
sent_down k None m = allowed k
sent_down k (Some b) m = let put = put_down k b.0 m in record { gate = put.after; ok = put.room }

-- The masks, how many vectors the gate has, and its own number.
module _ (masks : List ℕ) (vectors g : ℕ) where
  -- "the lowest numbered vector whose tasks are all in the offers"; vectors where there is none
  abbrev pub fitting : ℕ → ℕ
  fitting offers = first_from 0 vectors (λ (v : ℕ). subset_of (mask_of masks g v) offers)

  -- it "is dealt, its tasks leave the offers, and LOCK (gate, vector) goes to its lowest task"
  abbrev pub dealt : Gate → ℕ → Work
  dealt k v =
      sent_down (offering k (minus_of k.offers (mask_of masks g v)) (Dealing v)) (lowest_of (mask_of masks g v))
      (Lock (record { gate = record { 0 = g }; vector = v }))

  abbrev pub searched_by : Gate → Deal → Work
  searched_by k Idle = cond (ltb (fitting k.offers) vectors) (dealt k (fitting k.offers)) (allowed k)
  searched_by k (Dealing v) = allowed k

  -- "After any of the three, a gate that is Idle searches"
  unfoldable pub searched : Gate → Work
  searched k = searched_by k k.deal

  -- a result by task t: the gate becomes Idle with the offers after it, which it has by its offers and the mask of the
  -- dealt vector, and searches; excluded from a task outside the dealt vector, and at an Idle gate
  abbrev pub ended : ℕ → (ℕ → ℕ → ℕ) → Gate → Deal → Work
  ended t after k Idle = excluded k
  ended t after k (Dealing v) =
      cond (member_of (mask_of masks g v) t) (searched (offering k (after k.offers (mask_of masks g v)) Idle)) (excluded k)

  -- "READY: t joins the offers." COMMIT: "t leaves the offers, and the dealt vector's tasks aren't put back." ABORT: "the
  -- dealt vector's tasks rejoin the offers, then t leaves them"
  unfoldable pub at_gate : ℕ → Gate → Message → Work
  at_gate t k Ready = searched (offering k (with_of k.offers t) k.deal)
  at_gate t k (Lock r) = excluded k
  at_gate t k (Commit h) = ended t (λ (offers mask : ℕ). without_of offers t) k k.deal
  at_gate t k (Abort h) = ended t (λ (offers mask : ℕ). without_of (union_of offers mask) t) k k.deal
