use Rattle.std.proofs.Common.{ap, arith}
use Rattle.flow_solver.specs.residual_state.specs.States.{surplus}
use Rattle.flow_solver.specs.residual_state.proofs.Measured.{at_rest}
use Rattle.level_solver.proofs.settling.levels_to_the_end.Goals as goal

pub returns-then-surplus_of-eq0-clause-rest : goal.returns-then-surplus_of-eq0-clause-rest
returns-then-surplus_of-eq0-clause-rest c =
    let e = ap surplus c.deref.ensures.value in
    at_rest _ (omega (arith, e, c.surplus_of.ensures, c.if-surplus_of-eq0.true))
