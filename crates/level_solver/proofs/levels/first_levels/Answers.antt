use Rattle.flow_solver.specs.residual_state.proofs.Carried.{worse_never}
use Rattle.level_solver.proofs.levels.first_levels.Goals as goal

pub loop-preserved : goal.loop-preserved
loop-preserved c = worse_never _ _ _ c.loop.invariant c.in_ok-advise.ensures
