-- A task moves and announces itself: after it the newest message to each gate that it is ready at is a READY.
use Rattle.std.specs.Prelude.{Option, None, Some}
use Prim.Native.Nat.{ℕ}
use mathlib.Core.Bool.{Bool, true, false, cond, ◌&&◌}
use mathlib.Core.Path.{◌≡◌, refl}
use lib.Dec.{eqb}
use Rattle.protocol.specs.Plans.{Plan}
use Rattle.protocol.specs.Lines.{Line}
use Rattle.protocol.specs.Steps.{with_ready, announced, moved}
use Rattle.protocol.proofs.Tokens.{result_by, up_messages}
use Rattle.protocol.proofs.Invariant.{Ghost, PairLinks, Links}

abbrev pub announced_ghost : Ghost → ℕ → (ℕ → Bool) → Ghost
announced_ghost h t ready = record {
  token = h.token;
  phase = h.phase;
  passed_to = h.passed_to;
  ready_before = h.ready_before;
  ready_last = λ y x. cond (eqb y t && ready x) true (h.ready_last y x);
  replayed = h.replayed;
}

with_ready_lem : (g : ℕ) (r : Option Bool) (before last : Bool) → with_ready (up_messages g r before last) ≡ up_messages g r before true
with_ready_lem g None before true = refl
with_ready_lem g None before false = refl
with_ready_lem g (Some true) true true = refl
with_ready_lem g (Some true) true false = refl
with_ready_lem g (Some true) false true = refl
with_ready_lem g (Some true) false false = refl
with_ready_lem g (Some false) true true = refl
with_ready_lem g (Some false) true false = refl
with_ready_lem g (Some false) false true = refl
with_ready_lem g (Some false) false false = refl

pub announce_links : (P : Plan) (s : Line) (h : Ghost) (t : ℕ) (ready : ℕ → Bool) → Links P s h
    → Links P (announced s t ready) (announced_ghost h t ready)
announce_links P s h t ready j = record {
  gate = j.gate;
  task = j.task;
  higher = j.higher;
  lower = j.lower;
  own = j.own;
  pair = λ y g. go y g (eqb y t && ready g);
}
  where
    go : (y g : ℕ) (c : Bool)
        → PairLinks P y g (s.waiting y) (cond c (with_ready (s.up y g)) (s.up y g)) (s.down g y) (h.token g) (h.phase y)
        (h.passed_to y) (h.ready_before y g) (cond c true (h.ready_last y g))
    go y g false = j.pair y g
    go y g true = let q = j.pair y g in record {
      up_is = rw q.up_is (with_ready_lem g (result_by y (h.token g)) (h.ready_before y g) (h.ready_last y g));
      down_is = q.down_is;
      waiting_is = q.waiting_is;
      undecided_is = q.undecided_is;
      passed_is = q.passed_is;
    }

-- the links do not speak of a task's state
pub move_links : (P : Plan) (s : Line) (h : Ghost) (t x : ℕ) → Links P s h → Links P (moved P s t x) (announced_ghost h t (P.ready t x))
move_links P s h t x j =
    let l = announce_links P s h t (P.ready t x) j in
    record { gate = l.gate; task = l.task; higher = l.higher; lower = l.lower; own = l.own; pair = l.pair }
