-- The log after a delivery that is done: only the bytes of the entries written may change.
use Prim.Native.Nat.{ℕ, ◌+◌, ◌*◌, ◌/◌, ◌<◌, ◌≤◌}
use mathlib.Core.Bool.{true, true≢false}
use mathlib.Core.List.{List}
use mathlib.Core.Path.{◌≡◌, refl, sym, ◌∙◌}
use native.Mathlib.Nat.{le_refl}
use native.Mathlib.Omega.{arith}
use lib.ListN.{get_or, set, length, length-set}
use lib.Seq.{get_or-set_same}
use Rattle.answers.specs.Answers.{is_done}
use Rattle.std.proofs.lemmas.List.{get_or-set_other}
use Rattle.laws.proofs.Turning.{turns_keep}
use Rattle.channels.specs.Channels.{no_request}
use Rattle.channels.specs.declared.Request.{Request}
use Rattle.table.specs.declared.Table.{Table}
use Rattle.state.specs.declared.State.{State}
use Rattle.tasks.specs.declared.Work.{Work}
use Rattle.delivery.specs.Delivery.{Outcome, entered_in_log, written, delivered}
use Rattle.delivery.proofs.Written.{written_at}
use Rattle.kept.proofs.Ends.{Ends, refuses, to_gate, to_task, from_gate, HasRoom, done_at_task, across_popped, down_popped, across_work, down_work, ends}
use Rattle.kept.proofs.States.{sound_says}

pub record LogBehind (s : State) (log : List ℕ) (o : Outcome) : Type 0 where
  pub size : length o.log ≡ length log
  pub grown : s.logged ≤ o.state.logged
  pub fits : o.state.logged ≤ length log / 2
  pub before : (i : ℕ) → i < 2 * s.logged → get_or o.log i 0 ≡ get_or log i 0
  pub after : (i : ℕ) → 2 * o.state.logged ≤ i → get_or o.log i 0 ≡ get_or log i 0

-- entry k of a log, after one is written as number n: that one, and any other
abbrev pub entry_at : List ℕ → ℕ → Request
entry_at log k = record { gate = record { 0 = get_or log (k * 2) 0 }; vector = get_or log (k * 2 + 1) 0 }

module _ (n : ℕ) (r : Request) (log : List ℕ) where
  pub entry_new : n * 2 + 1 < length log → entry_at (entered_in_log n r log) n ≡ r
  entry_new h = rw (
    get_or-set_other (set log (n * 2) r.gate.0) (n * 2 + 1) (n * 2) r.vector 0 (λ e. omega arith),
    get_or-set_same log (n * 2) r.gate.0 0 (omega arith),
    get_or-set_same (set log (n * 2) r.gate.0) (n * 2 + 1) r.vector 0 (simp length-set h),
  )

  pub entry_old : (k : ℕ) → (k ≡ n → ⊥) → entry_at (entered_in_log n r log) k ≡ entry_at log k
  entry_old k h = rw (
    get_or-set_other (set log (n * 2) r.gate.0) (n * 2 + 1) (k * 2) r.vector 0 (λ e. omega arith),
    get_or-set_other log (n * 2) (k * 2) r.gate.0 0 (λ e. h (omega arith)),
    get_or-set_other (set log (n * 2) r.gate.0) (n * 2 + 1) (k * 2 + 1) r.vector 0 (λ e. h (omega arith)),
    get_or-set_other log (n * 2) (k * 2 + 1) r.gate.0 0 (λ e. omega arith),
  )

-- entries written change no length
pub same_length : (at : ℕ) (entries : List Request) (n : ℕ) (log : List ℕ) → length (written at entries n log) ≡ length log
unfolding written
same_length at entries n log = turns_keep (λ (l : List ℕ). length l ≡ length log) (written_at at entries) n log
    (λ k l below e. simp length-set e) refl

module _ (at : ℕ) (w : Work) (log : List ℕ) where
  pub written_length : length (written at w.entries w.fired log) ≡ length log
  written_length = same_length at w.entries w.fired log

  -- a place that no entry takes
  written_other : (i : ℕ) → ((k : ℕ) → k < w.fired → (i ≡ (at + k) * 2 → ⊥) × (i ≡ (at + k) * 2 + 1 → ⊥))
      → get_or (written at w.entries w.fired log) i 0 ≡ get_or log i 0
  unfolding written
  written_other i h = turns_keep (λ (l : List ℕ). get_or l i 0 ≡ get_or log i 0) (written_at at w.entries) w.fired log
      (λ k l below e. get_or-set_other (set l ((at + k) * 2) (get_or w.entries k no_request).gate.0) ((at + k) * 2 + 1) i
      (get_or w.entries k no_request).vector 0 (h k below).1
      ∙ get_or-set_other l ((at + k) * 2) i (get_or w.entries k no_request).gate.0 0 (h k below).0 ∙ e) refl

at_task_lem : (s popped : State) (log : List ℕ) (b : ℕ) (w : Work) → s.logged ≤ length log / 2 → HasRoom s log w
    → LogBehind s log (done_at_task s popped log b w)
at_task_lem s popped log b w l r = record {
  size = written_length s.logged w log;
  grown = omega arith;
  fits = omega arith;
  before = λ i h. written_other s.logged w log i (λ k below. (λ e. omega arith, λ e. omega arith));
  after = λ i h. written_other s.logged w log i (λ k below. (λ e. omega arith, λ e. omega arith));
}

behind : (T : Table) (s : State) (log : List ℕ) (o : Outcome) → Ends T s log o → is_done o.answer ≡ true
    → LogBehind s log o
behind T s log _ (refuses a n) d = absurd (true≢false (sym d ∙ n))
behind T s log _ (to_gate t g h x y) d = record {
  size = refl;
  grown = le_refl s.logged;
  fits = (sound_says T s log h).logged;
  before = λ i l. refl;
  after = λ i l. refl;
}
behind T s log _ (to_task a b h x y n r) d =
    at_task_lem s (across_popped s a b) log b (across_work T s a b) (sound_says T s log h).logged r
behind T s log _ (from_gate g b h x y n r) d =
    at_task_lem s (down_popped s g b) log b (down_work T s g b) (sound_says T s log h).logged r

-- "the entry is written after the log's last, no other byte of it changing"
pub log_behind : (T : Table) (s : State) (log : List ℕ) (from to : ℕ)
    → is_done (delivered T s log from to).answer ≡ true
    → LogBehind s log (delivered T s log from to)
log_behind T s log from to = behind T s log (delivered T s log from to) (ends T s log from to)

long : (T : Table) (s : State) (log : List ℕ) (o : Outcome) → Ends T s log o → length o.log ≡ length log
long T s log _ (refuses a n) = refl
long T s log _ (to_gate t g h x y) = refl
long T s log _ (to_task a b h x y n r) = written_length s.logged (across_work T s a b) log
long T s log _ (from_gate g b h x y n r) = written_length s.logged (down_work T s g b) log

-- whatever the answer
pub outcome_long : (T : Table) (s : State) (log : List ℕ) (from to : ℕ) → length (delivered T s log from to).log ≡ length log
outcome_long T s log from to = long T s log (delivered T s log from to) (ends T s log from to)
