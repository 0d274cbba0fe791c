use Rattle.level_solver.proofs.settling.levels_at_first.Goals as goal

pub returns : goal.returns
returns c = λ g is. c.in_ok-first_levels.ensures.state g is
