use Rattle.std.proofs.Common.{◌≡◌, ℕ, List, length, ap, subst, arith}
use Rattle.setoff_model.specs.declared.cut.CutClaim.{CutClaim}
use Rattle.setoff_model.specs.CutView.{obligations}
use Rattle.netting_graph.specs.NetView.{obligations_of_net}
use Rattle.netting_graph.proofs.Filling.{Filled}
use Rattle.netting_graph.proofs.Steps.{known_pair, claim_filled, spread_whole}
use Rattle.netting_graph.proofs.spreading.fill_all.Goals as goal

pub fill-discharge-requires-clause-known : goal.fill-discharge-requires-clause-known
fill-discharge-requires-clause-known c =
    known_pair c.args.cut.now c.args.net.now c.claims-claims.result.now c.args.index.now c.loop-claim.claim-index
    c.claim-item.result c.requires.net c.claims-claims.ensures c.requires.index c.loop-claim-test.true c.claim-item.is

pub loop-claim-preserved : goal.loop-claim-preserved
loop-claim-preserved c =
    claim_filled c.args.cut.now c.args.net.now c.claims-claims.result.now c.args.index.now c.loop-claim.claim-index
    c.claim-item.result c.requires.net c.claims-claims.ensures c.requires.index c.loop-claim-test.true c.claim-item.is
    c.args.left.now c.loop-claim.left c.fill-discharge.new.left c.loop-claim.discharges.items c.push.new.self.items
    c.fill-discharge.result c.loop-claim.invariant c.fill-discharge.ensures c.in_ok-push.ensures.items

pub returns : goal.returns
returns c =
    let end : c.loop-claim.claim-index ≡ length c.args.cut.now.claims =
    omega (arith, ap (λ (xs : List CutClaim). length xs) c.claims-claims.ensures) in
    let filled : Filled (length c.args.cut.now.claims) (obligations c.args.cut.now) (obligations_of_net c.args.net.now)
    c.args.left.now c.loop-claim.left c.loop-claim.discharges.items =
    subst (λ (m : ℕ). Filled m (obligations c.args.cut.now) (obligations_of_net c.args.net.now) c.args.left.now
    c.loop-claim.left c.loop-claim.discharges.items) end c.loop-claim.invariant in
    spread_whole c.args.cut.now c.args.net.now c.args.left.now c.loop-claim.left c.loop-claim.discharges.items
    c.requires.net filled c.requires.within
