use Rattle.std.specs.Prelude.{slice_index}
use Rattle.std.proofs.Common.{ℕ, ◌<◌, ◌≤◌, List, length, subst, sym, arith}
use Rattle.setoff_model.specs.declared.limits.TheConstants.{MOST_AMOUNT}
use Rattle.setoff_model.proofs.Columns.{amount_small, claims_long}
use Rattle.weighted_setoff.proofs.checker.compare.Goals as goal

pub weighted_total-total-requires-clause-discharges : goal.weighted_total-total-requires-clause-discharges
weighted_total-total-requires-clause-discharges c =
    let small : (k : ℕ) → k < length c.args.outcome.now.discharges → slice_index c.args.outcome.now.discharges k ≤ MOST_AMOUNT =
    λ k lt.
    let in' : k < length c.args.cut.now.claims = omega (arith, lt, c.requires.faultless.lengths.discharges, claims_long c.args.cut.now) in
    let most = amount_small c.args.cut.now k c.requires.cut in' in
    let within = c.requires.faultless.within k (omega (arith, in', claims_long c.args.cut.now)) in
    omega (arith, most, within) in
    subst (λ (d : List ℕ). (k : ℕ) → k < length d → slice_index d k ≤ MOST_AMOUNT) (sym c.discharges.ensures) small
