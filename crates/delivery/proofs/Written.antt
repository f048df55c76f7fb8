-- Entries written to the log, one by one.
use Prim.Native.Nat.{ℕ, ◌+◌}
use mathlib.Core.List.{List}
use lib.ListN.{get_or}
use Rattle.channels.specs.Channels.{no_request}
use Rattle.channels.specs.declared.Request.{Request}
use Rattle.delivery.specs.Delivery.{entered_in_log}

-- entry k of those written behind the first `at`
abbrev pub written_at : ℕ → List Request → ℕ → List ℕ → List ℕ
written_at at entries k log = entered_in_log (at + k) (get_or entries k no_request) log
