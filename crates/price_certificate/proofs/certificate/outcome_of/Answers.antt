use Rattle.std.specs.Prelude.{ℤ}
use Rattle.std.proofs.Common.{ℕ, List, subst, sym, ◌∙◌}
use Rattle.setoff_model.specs.CutView.{OutcomeView, obligations}
use Rattle.setoff_model.specs.Setoff.{Proves}
use Rattle.setoff_model.specs.Squeezing.{IsSqueezed}
use Rattle.flow_solver.specs.netting_graph.specs.Merging.{IsSpread}
use Rattle.price_certificate.proofs.Proved.{proved}
use Rattle.price_certificate.proofs.certificate.outcome_of.Goals as goal

pub returns-clause-proved : goal.returns-clause-proved
returns-clause-proved c =
    let spread = subst (λ (xs : List ℕ). IsSpread c.args.cut.now c.args.net.now xs c.in_ok-discharges.discharges.items) (c.deref.ensures.value ∙ c.into_parts-flows.ensures.flows) c.in_ok-discharges.ensures.spread in
    let squeezed = subst (λ (p : List ℤ). IsSqueezed p c.squeeze.new.prices.items) c.into_parts-flows.ensures.prices c.in_ok-squeeze.ensures.squeezed in
    let proof = proved c.args.cut.now c.args.net.now c.args.flow _ _ c.requires.net c.requires.flow spread squeezed in
    subst (λ (o : OutcomeView). Proves (obligations c.args.cut.now) o.discharges o.prices) (sym c.new.ensures) proof
