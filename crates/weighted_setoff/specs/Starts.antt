-- The claims of a cut, with weights, as arcs of a search.
use Rattle.std.specs.Prelude.{◌≡◌, ℕ, List}
use Rattle.setoff_model.specs.declared.cut.CutClaim.{CutClaim}
use Rattle.setoff_model.specs.CutView.{CutView, obligations, debtors, creditors, amounts}
use Rattle.level_solver.specs.residual_network.specs.declared.edge.Edge.{Edge}
use Rattle.level_solver.specs.residual_state.specs.Edges.{tails, heads, capacities, rewards}
use Rattle.level_solver.specs.residual_state.specs.States.{Weighed}

-- one arc for each claim in order, on which a unit counts the weight
pub record AreEdgesOf (claims : List CutClaim) (weights : List ℕ) (edges : List Edge) : Type 0 where
  pub tail : tails edges ≡ debtors claims
  pub head : heads edges ≡ creditors claims
  pub capacity : capacities edges ≡ amounts claims
  pub reward : rewards edges ≡ weights

-- the obligations of a cut, with its claims' weights
abbrev pub weighed_cut : CutView → List ℕ → Weighed
weighed_cut cut weights = record { obligations = obligations cut; weights = weights }
