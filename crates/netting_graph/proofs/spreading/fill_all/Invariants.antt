use Rattle.setoff_model.specs.CutView.{obligations}
use Rattle.netting_graph.specs.NetView.{obligations_of_net}
use Rattle.netting_graph.proofs.Filling.{Filled}
use Rattle.netting_graph.proofs.spreading.fill_all.Given as goal

-- the claims so far have taken their part of the flows
abbrev pub invariant-loop-claim : goal.invariant-loop-claim
invariant-loop-claim l = Filled l.claim-index (obligations l.cut) (obligations_of_net l.net) l.initial.left l.left l.discharges.items
