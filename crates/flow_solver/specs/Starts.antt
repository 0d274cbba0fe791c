-- A net's arcs as those of a search.
use Rattle.std.specs.Prelude.{map}
use Rattle.netting_graph.specs.declared.arc.Arc.{Arc}
use Rattle.netting_graph.specs.NetView.{NetView, obligations_of_net}
use Rattle.residual_state.specs.residual_network.specs.declared.edge.Edge.{Edge}
use Rattle.residual_state.specs.States.{Weighed}

-- the arc of a search for an arc of the net
abbrev pub claim_edge : Arc → Edge
claim_edge arc = record { tail = arc.debtor; head = arc.creditor; capacity = arc.amount; reward = 1 }

-- the obligations of a net, of which each cent counts 1
abbrev pub unweighed : NetView → Weighed
unweighed net = record { obligations = obligations_of_net net; weights = map (λ a. 1) net.arcs }
