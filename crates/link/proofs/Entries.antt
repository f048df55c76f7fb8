-- The entries that a delivery writes, as the protocol sees them.
use Prim.Native.Nat.{ℕ, ◌*◌, ◌+◌, ◌<◌, ◌≤◌, suc, zero}
use mathlib.Core.List.{List, ◌∷◌}
use mathlib.Core.Path.{◌≡◌, ◌∙◌, ap, refl}
use native.Mathlib.Nat.{add-suc, add-zero}
use native.Mathlib.Numerals.{add-one}
use native.Mathlib.Omega.{arith}
use lib.ListN.{get_or, length, set}
use lib.Seq.{get_or-set_other, get_or-set_same}
use Rattle.channels.specs.Channels.{no_request}
use Rattle.channels.specs.declared.Request.{Request}
use Rattle.delivery.specs.Delivery.{entered_in_log, written}
use Rattle.kept.proofs.Log.{entry_new, entry_old, same_length}
use Rattle.link.proofs.View.{newest_first}

-- the first n entries of a delivery, the newest first, before those of the log
abbrev pub entries_with : ℕ → List Request → List Request → List Request
entries_with zero entries log = log
entries_with (suc n) entries log = get_or entries n no_request ∷ entries_with n entries log

entries_keep : (m n : ℕ) (entries : List Request) (r : Request) (log : List Request) → m ≤ n
    → entries_with m (set entries n r) log ≡ entries_with m entries log
entries_keep zero n entries r log h = refl
entries_keep (suc m) n entries r log h =
    rw (entries_keep m n entries r log (omega arith))
    (ap (λ q. q ∷ entries_with m entries log) (get_or-set_other entries n m r no_request (λ p. absurd (omega arith))))

pub entries_more : (n : ℕ) (entries : List Request) (r : Request) (log : List Request) → n < length entries
    → entries_with (n + 1) (set entries n r) log ≡ r ∷ entries_with n entries log
entries_more n entries r log h =
    rw add-one (rw (entries_keep n n entries r log (omega arith))
    (ap (λ q. q ∷ entries_with n entries log) (get_or-set_same entries n r no_request h)))

-- an entry written as number k leaves those before it
before : (m k : ℕ) (log : List ℕ) (r : Request) → m ≤ k → newest_first m (entered_in_log k r log) ≡ newest_first m log
before zero k log r h = refl
before (suc m) k log r h =
    rw (before m k log r (omega arith)) (ap (λ e. e ∷ newest_first m log) (entry_old k r log m (λ p. omega arith)))

one_more : (k : ℕ) (log : List ℕ) (r : Request) → k * 2 + 1 < length log
    → newest_first (suc k) (entered_in_log k r log) ≡ r ∷ newest_first k log
one_more k log r h = rw (before k k log r (omega arith)) (ap (λ e. e ∷ newest_first k log) (entry_new k r log h))

-- n entries written behind the first `at`
pub written_entries : (at : ℕ) (entries : List Request) (log : List ℕ) (n : ℕ) → (at + n) * 2 ≤ length log
    → newest_first (at + n) (written at entries n log) ≡ entries_with n entries (newest_first at log)
unfolding written
written_entries at entries log zero h = rw add-zero
written_entries at entries log (suc n) h = rw (add-suc at n)
    (one_more (at + n) (written at entries n log) (get_or entries n no_request) (rw (same_length at entries n log) (omega arith))
    ∙ ap (λ l. get_or entries n no_request ∷ l) (written_entries at entries log n (omega arith)))
