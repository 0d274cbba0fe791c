use Rattle.std.proofs.Common.{◌≡◌, List}
use Rattle.setoff_model.specs.CutView.{obligations_of}
use Rattle.setoff_model.specs.declared.cut.Party.{Party}
use Rattle.netting_graph.specs.NetView.{obligations_of_arcs, pairs_of}
use Rattle.netting_graph.specs.Merging.{IsMerged}
use Rattle.netting_graph.proofs.merge.merge.Given as goal

-- the arcs of the claims so far, and the index of these arcs
abbrev pub invariant-loop-claim : goal.invariant-loop-claim
invariant-loop-claim l = record {
  tied : l.index ≡ pairs_of l.arcs.items;
  merged : (parties : List Party) → IsMerged l.claim-index (obligations_of parties l.claims) (obligations_of_arcs parties l.arcs.items);
}
