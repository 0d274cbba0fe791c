use Rattle.flow_solver.specs.Starts.{unweighed}
use Rattle.flow_solver.proofs.plain_solver.solve_net.Goals as goal

pub returns-then-not-branch-clause-state : goal.returns-then-not-branch-clause-state
returns-then-not-branch-clause-state c = c.in_ok-augment.ensures.state (unweighed c.args.net.now) c.loop-state.invariant

pub loop-state-preserved : goal.loop-state-preserved
loop-state-preserved c = c.in_ok-augment.ensures.state (unweighed c.args.net.now) c.loop-state.invariant
