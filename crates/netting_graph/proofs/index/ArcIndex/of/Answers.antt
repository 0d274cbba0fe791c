use Rattle.netting_graph.proofs.Columns.{no_arc}
use Rattle.netting_graph.proofs.Steps.{new_pair}
use Rattle.netting_graph.proofs.index.ArcIndex.of.Goals as goal

pub push-requires : goal.push-requires
push-requires c =
    new_pair c.args.arcs.now c.loop-arc.arc-index no_arc c.loop-arc.index c.loop-arc-test.true c.requires c.loop-arc.invariant
