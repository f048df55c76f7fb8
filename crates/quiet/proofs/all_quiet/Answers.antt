-- Each channel is tested.
use Rattle.std.proofs.Common.{rules, tests, arith, eqb, ◌∙◌}
use Rattle.std.proofs.lemmas.Iterator.Search.{all_from_yields_List}
use Rattle.std.proofs.lemmas.Iterator.{YieldsList-from_slice}
use Rattle.quiet.proofs.Each.{each_by_index}
use Rattle.quiet.proofs.all_quiet.Goals as goal

pub returns : goal.returns
returns g c =
    let l = c.args.list.now in
    all_from_yields_List (λ x. eqb (g.C.Channel.count x) 0) _ _ c.all.result c.all.ensures.ran (YieldsList-from_slice l cc) (λ x b q k. search (rules, tests))
    ∙ each_by_index (λ x. eqb (g.C.Channel.count x) 0) g.C.Channel.empty l g.row.N (omega arith)
