use Rattle.flow_solver.specs.residual_state.specs.Carries.{IsNoWorse}
use Rattle.level_solver.proofs.levels.first_levels.Given as goal

abbrev pub invariant-loop : goal.invariant-loop
invariant-loop l = IsNoWorse l.initial.state l.state
