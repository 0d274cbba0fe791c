use Rattle.netting_graph.proofs.Kept.{merged_law, spread_law, bound_law}
use Rattle.netting_graph.proofs.Bounded.{flows_are_bounded}
use Rattle.netting_graph.proofs.laws.merging_keeps_setoffs.Goals as goal

pub returns-clause-merged : goal.returns-clause-merged
returns-clause-merged c = merged_law

pub returns-clause-spread : goal.returns-clause-spread
returns-clause-spread c = spread_law

pub returns-clause-bound : goal.returns-clause-bound
returns-clause-bound c = bound_law

pub returns-clause-bounded : goal.returns-clause-bounded
returns-clause-bounded c = flows_are_bounded
