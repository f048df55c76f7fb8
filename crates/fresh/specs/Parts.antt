-- One task of Fresh, which has a function of its own. The interface does not speak of it.
use Rattle.std.specs.Prelude.{ℕ, List}
use Rattle.state.specs.States.{at_state}
use Rattle.state.specs.declared.Task.{Task}
use Rattle.tasks.specs.Tasks.{begun, announced}

abbrev pub started : List ℕ → ℕ → ℕ → ℕ → Task → Task
started moves gates t start p = (announced moves gates t (begun (at_state p start))).task
