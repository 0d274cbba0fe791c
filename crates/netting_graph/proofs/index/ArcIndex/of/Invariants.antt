use Rattle.std.proofs.Common.{◌≡◌, take}
use Rattle.netting_graph.specs.NetView.{pairs_of}
use Rattle.netting_graph.proofs.index.ArcIndex.of.Given as goal

-- the pairs of the arcs so far
abbrev pub invariant-loop-arc : goal.invariant-loop-arc
invariant-loop-arc l = l.index ≡ pairs_of (take l.arc-index l.arcs)
