use Rattle.std.proofs.Common.{◌≡◌, ◌++◌, take, drop, length, refl, arith}
use Rattle.std.proofs.lemmas.Grind.{common_steps}
use Rattle.residual_state.specs.Adoptions.{CanAdopt}
use Rattle.residual_state.proofs.Adopted.{adopted_by, rest_by}
use Rattle.residual_state.proofs.adopting.adopt.Goals as goal

pub returns-clause-no_worse : goal.returns-clause-no_worse
returns-clause-no_worse c =
    let left : take c.in_ok-left.left.len (c.is_solution.new.left ++ drop (length c.is_solution.new.left) c.in_ok-left.left.items) ≡ c.is_solution.new.left = grind (arith, common_steps) in
    let each : length c.is_solution.new.left ≡ length c.args.state.now.excess.items = grind (arith, common_steps) in
    let can : CanAdopt c.args.state.now c.args.flows.items c.draw_near.new.prices.items = rw (← c.deref-2.ensures.value, ← c.deref-3.ensures.value) (c.is_solution.ensures.solution.0 c.if-not-is_solution.false) in
    adopted_by c.args.state.now _ c.args.flows.items c.draw_near.new.prices.items c.is_solution.new.left can refl refl refl left each (c.is_solution.ensures.zero c.if-not-is_solution.false)

pub returns-clause-rest : goal.returns-clause-rest
returns-clause-rest c =
    let left : take c.in_ok-left.left.len (c.is_solution.new.left ++ drop (length c.is_solution.new.left) c.in_ok-left.left.items) ≡ c.is_solution.new.left = grind (arith, common_steps) in
    λ _. rest_by _ c.is_solution.new.left left (c.is_solution.ensures.zero c.if-not-is_solution.false)
