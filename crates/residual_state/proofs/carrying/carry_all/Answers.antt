use Rattle.std.proofs.Common.{subst}
use Rattle.std.proofs.lemmas.List.{get_or_default}
use Rattle.residual_network.specs.declared.push.Push.{Push}
use Rattle.residual_state.specs.Carries.{IsCarried}
use Rattle.residual_state.proofs.Carried.{worse_never, carried_more}
use Rattle.residual_state.proofs.carrying.carry_all.Goals as goal

pub loop-push-preserved : goal.loop-push-preserved
loop-push-preserved c = record {
  no_worse = worse_never _ _ _ c.loop-push.invariant.no_worse c.carry.ensures.no_worse;
  carried = λ none. carried_more none c.args.state.now c.loop-push.state c.carry.new.state c.args.pushes.now c.loop-push.push-index (c.loop-push.invariant.carried none)
      (subst (λ (p : Push). IsCarried c.loop-push.state p c.carry.new.state) (get_or_default c.args.pushes.now c.loop-push.push-index _ none c.loop-push-test.true) c.carry.ensures.carried);
}
