use Rattle.std.proofs.Common.{◌≡◌, ◌∙◌, ◌<◌, List, ap, arith, get_or, length, subst, sym}
use Rattle.setoff_model.specs.declared.cut.CutClaim.{CutClaim}
use Rattle.setoff_model.specs.CutView.{creditors}
use Rattle.setoff_model.proofs.Flows.{column}
use Rattle.journal_summaries.proofs.Flowing.{flow_next, sum_fits}
use Rattle.journal_summaries.proofs.flows.flow_towards.Goals as goal

pub overflow_add-sum : goal.overflow_add-sum
overflow_add-sum c =
    let i = c.loop-i.i in
    let at = (get_or c.claims-claims.result.now i c.index-claims-i.result).creditor in
    let lt = subst (λ (cs : List CutClaim). i < length cs) c.claims-claims.ensures c.loop-i-test.true in
    omega (arith, sum_fits c.args.cut.now c.args.discharges.now (creditors c.args.cut.now.claims) c.requires.formed c.requires.lawful i at c.args.place c.loop-i.sum c.discharge_at-sum.result lt c.loop-i.invariant.sum c.discharge_at-sum.ensures)

pub loop-i-preserved : goal.loop-i-preserved
loop-i-preserved c =
    let claims = c.args.cut.now.claims in
    let i = c.loop-i.i in
    let claim = c.index-claims-i.result in
    let at = (get_or c.claims-claims.result.now i claim).creditor in
    let lt = subst (λ (cs : List CutClaim). i < length cs) c.claims-claims.ensures c.loop-i-test.true in
    let is = subst (λ (cs : List CutClaim). claim ≡ get_or cs i claim) c.claims-claims.ensures c.index-claims-i.is in
    let party = ap (λ (x : CutClaim). x.creditor) (sym c.index-claims-i.is) ∙ sym (column (λ x. x.creditor) claims i claim is lt) in
    record { sum = flow_next c.args.discharges.now (creditors claims) i at c.args.place c.loop-i.sum c.discharge_at-sum.result c.loop-i.invariant.sum party c.discharge_at-sum.ensures }
