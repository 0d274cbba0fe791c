use Rattle.std.proofs.Common.{List, length, subst, sym, ◌∙◌, ap, arith}
use Rattle.setoff_model.specs.declared.cut.CutClaim.{CutClaim}
use Rattle.setoff_model.specs.CutView.{OutcomeView, obligations}
use Rattle.setoff_model.specs.Weighted.{ProvesWeighted}
use Rattle.setoff_model.proofs.Columns.{claims_long, parties_long}
use Rattle.weighted_setoff.specs.Starts.{weighed_cut}
use Rattle.weighted_setoff.proofs.Solved.{proved}
use Rattle.weighted_setoff.proofs.solving.solve_weighted.Goals as goal

pub found_at_rest-discharges-requires-clause-state : goal.found_at_rest-discharges-requires-clause-state
found_at_rest-discharges-requires-clause-state c =
    let g = weighed_cut c.args.cut.now c.args.weights.now in
    (g, c.in_ok-settle.ensures.state g c.in_ok-state.ensures)

pub squeeze_to-requires : goal.squeeze_to-requires
squeeze_to-requires c =
    let settled = c.in_ok-settle.ensures.state (weighed_cut c.args.cut.now c.args.weights.now) c.in_ok-state.ensures in
    let claims = ap (λ (cs : List CutClaim). length cs) c.claims.ensures in
    let found = c.found_at_rest-discharges.ensures (weighed_cut c.args.cut.now c.args.weights.now) settled (claims ∙ sym (claims_long c.args.cut.now)) in
    omega (arith, found.price_each, parties_long c.args.cut.now, c.requires.cut.few_parties)

pub returns-clause-proved : goal.returns-clause-proved
returns-clause-proved c =
    let settled = c.in_ok-settle.ensures.state (weighed_cut c.args.cut.now c.args.weights.now) c.in_ok-state.ensures in
    let claims = ap (λ (cs : List CutClaim). length cs) c.claims.ensures in
    let found = c.found_at_rest-discharges.ensures (weighed_cut c.args.cut.now c.args.weights.now) settled (claims ∙ sym (claims_long c.args.cut.now)) in
    subst (λ (o : OutcomeView). ProvesWeighted (obligations c.args.cut.now) c.args.weights.now o.discharges o.prices) (sym c.new.ensures)
    (proved c.args.cut.now c.args.weights.now _ _ _ c.requires.weights found c.in_ok-squeeze_to.ensures.squeezed c.in_ok-squeeze_to.ensures.near)

pub returns-clause-greatest : goal.returns-clause-greatest
returns-clause-greatest c =
    c.weighted_duality.ensures.laws.proved_is_greatest (obligations c.args.cut.now) c.args.weights.now _ _ (returns-clause-proved c)
