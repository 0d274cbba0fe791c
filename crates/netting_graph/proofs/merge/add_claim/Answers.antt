use Rattle.std.proofs.Common.{◌∙◌}
use Rattle.netting_graph.proofs.Added.{pairs_kept}
use Rattle.netting_graph.proofs.merge.add_claim.Goals as goal

pub returns-in-Some-clause-tied : goal.returns-in-Some-clause-tied
returns-in-Some-clause-tied c =
    c.requires.tied ∙ pairs_kept c.args.arcs.now.items c.in-Some.place c.index_mut.result.now c.args.claim.now.amount
    c.index_mut.ensures.value
