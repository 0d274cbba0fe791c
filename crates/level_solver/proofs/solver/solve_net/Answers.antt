use Rattle.flow_solver.specs.Starts.{unweighed}
use Rattle.level_solver.proofs.solver.solve_net.Goals as goal

pub returns-clause-state : goal.returns-clause-state
returns-clause-state c = c.in_ok-settle.ensures.state (unweighed c.args.net.now) c.in_ok-state.ensures
