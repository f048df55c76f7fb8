-- The line as the protocol sees it: parties as functions of their numbers, channels and waiting lists as lists.
use Prim.Native.Nat.{ℕ, suc, zero, ◌+◌, ◌*◌}
use mathlib.Core.List.{List, [], ◌∷◌}
use lib.ListN.{get_or, take}
use Rattle.sets.specs.Sets.{member_of}
use Rattle.channels.specs.declared.Request.{Request}
use Rattle.channels.specs.declared.Message.{Message}
use Rattle.state.specs.States.{task_of, gate_of, up_of, across_of, down_of}
use Rattle.state.specs.declared.Task.{Task}
use Rattle.state.specs.declared.Gate.{Gate}
use Rattle.state.specs.declared.State.{State}
use Rattle.protocol.specs.Lines.{Line, request}
use Rattle.line.specs.Contents.{messages1, messages3}

abbrev pub up_list : Task → ℕ → List Message
up_list p g = messages3 (up_of p g)

abbrev pub across_list : Task → ℕ → List Message
across_list p b = messages1 (across_of p b)

abbrev pub down_list : Gate → ℕ → List Message
down_list k b = messages1 (down_of k b)

-- the requests that wait at a task, the front first
abbrev pub requests_of : Task → List Request
requests_of p = take p.count p.waiting

-- a line whose parties are these, with these log entries, the newest first
abbrev pub line_with : (ℕ → Task) → (ℕ → Gate) → List Request → Line
line_with tasks gates entries = record {
  at = λ t. (tasks t).state;
  mode = λ t. (tasks t).mode;
  waiting = λ t. requests_of (tasks t);
  offers = λ g t. member_of (gates g).offers t;
  deal = λ g. (gates g).deal;
  up = λ t g. up_list (tasks t) g;
  down = λ g t. down_list (gates g) t;
  across = λ a b. across_list (tasks a) b;
  log = entries;
}

-- the log's first n entries, the newest first
abbrev pub newest_first : ℕ → List ℕ → List Request
newest_first zero log = []
newest_first (suc n) log = request (get_or log (n * 2) 0) (get_or log (n * 2 + 1) 0) ∷ newest_first n log

abbrev pub line_of : State → List ℕ → Line
line_of s log = line_with (task_of s) (gate_of s) (newest_first s.logged log)
