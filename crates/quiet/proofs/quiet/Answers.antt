-- Each party is tested, and each channel of it.
use Rattle.std.proofs.Common.{rules, tests, arith, ◌≡◌, ◌&&◌, ◌∙◌, ap₂}
use Rattle.std.proofs.lemmas.Iterator.Search.{all_from_yields_List}
use Rattle.std.proofs.lemmas.Iterator.{YieldsList-from_slice}
use Rattle.std.specs.List.{list_all}
use Rattle.state.specs.States.{no_task, no_gate}
use Rattle.quiet.specs.Quiet.{quiet}
use Rattle.quiet.specs.Parts.{task_quiet, gate_quiet}
use Rattle.quiet.proofs.Each.{each_by_index}
use Rattle.quiet.proofs.quiet.Goals as goal

pub returns : goal.returns
unfolding quiet
returns c =
    let s = c.args.s in
    let t : c.all-tasks.result ≡ list_all task_quiet s.tasks = all_from_yields_List task_quiet _ _ c.all-tasks.result c.all-tasks.ensures.ran (YieldsList-from_slice s.tasks cc) (λ x b q k. search (rules, tests)) in
    let g : c.all-gates.result ≡ list_all gate_quiet s.gates = all_from_yields_List gate_quiet _ _ c.all-gates.result c.all-gates.ensures.ran (YieldsList-from_slice s.gates cc) (λ x b q k. search (rules, tests)) in
    ap₂ ◌&&◌ (t ∙ each_by_index task_quiet no_task s.tasks 16 (omega arith)) (g ∙ each_by_index gate_quiet no_gate s.gates 16 (omega arith))
