use Rattle.std.proofs.Common.{arith, ℕ, ◌<◌, ◌≤◌, length}
use Rattle.std.proofs.lemmas.Int.{to_z-of_z, fits_signed_from_abs}
use Rattle.std.proofs.lemmas.Nat.{mul-le}
use mir.Syntax.{w64}
use mir.Val.{SFits}
use Rattle.setoff_model.specs.declared.limits.TheConstants.{MOST_AMOUNT}
use Rattle.setoff_model.specs.Setoff.{price_at}
use Rattle.setoff_model.specs.CutView.{obligations_of}
use Rattle.setoff_model.proofs.Flows.{column}
use Rattle.setoff_checker.proofs.Flows.{of_read}
use Rattle.weighted_setoff.proofs.Judged.{bound_more}
use Rattle.weighted_setoff.proofs.judging.bound_of_claims.Goals as goal

pub loop-place-preserved : goal.loop-place-preserved
loop-place-preserved c =
    let i = c.loop-place.place in
    let claims = c.args.claims.now in
    let claim = c.index-claims-place.result in
    let is = c.index-claims-place.is in
    let in' = c.loop-place-test.true in
    let prices = c.args.prices.now in
    let fits : (f : ℕ) → f < length prices → SFits w64 (price_at prices f) =
    λ f h. fits_signed_from_abs w64 (price_at prices f) (omega (arith, c.requires.prices f h)) in
    let debtor = fits claim.debtor (of_read (λ x. x.debtor < length prices) claims i claim c.requires.debtors is in') in
    let creditor = fits claim.creditor (of_read (λ x. x.creditor < length prices) claims i claim c.requires.creditors is in') in
    let amount = of_read (λ x. x.amount ≤ MOST_AMOUNT) claims i claim c.requires.amounts is in' in
    record {
      value = λ parties. bound_more i (obligations_of parties claims) c.args.weights.now prices _ _ _ _ _ (column (λ c. c.debtor) claims i claim is in') (column (λ c. c.creditor) claims i claim is in') (column (λ c. c.amount) claims i claim is in') (c.loop-place.invariant.value parties) (simp to_z-of_z at c.factor_of-factor.ensures.value);
      limit = omega (arith, mul-le _ _ MOST_AMOUNT 294921 amount c.factor_of-factor.ensures.limit, c.loop-place.invariant.limit);
    }
