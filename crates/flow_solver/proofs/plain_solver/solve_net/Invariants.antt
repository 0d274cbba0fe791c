use Rattle.residual_state.specs.States.{IsStateOf, surplus}
use Rattle.flow_solver.specs.Starts.{unweighed}
use Rattle.flow_solver.proofs.plain_solver.solve_net.Given as goal

abbrev pub invariant-loop-state : goal.invariant-loop-state
invariant-loop-state l = IsStateOf (unweighed l.net) l.state

abbrev pub decreases-loop-state : goal.decreases-loop-state
decreases-loop-state l = surplus l.state.excess.items
