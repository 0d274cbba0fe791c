use Rattle.std.proofs.Common.{ℕ, ◌<◌, ◌≤◌, All, subst, sym}
use Rattle.setoff_model.specs.declared.limits.TheConstants.{SUM_LIMIT, MOST_AMOUNT}
use Rattle.setoff_model.proofs.Columns.{lawful_fits}
use Rattle.printed_text.proofs.Printing.{discharges_fit}
use Rattle.weighed_round.proofs.text.text_of.Goals as goal

pub put_claims-requires-clause-discharges : goal.put_claims-requires-clause-discharges
put_claims-requires-clause-discharges c =
    subst (All (λ (d : ℕ). d < SUM_LIMIT)) (sym c.discharges.ensures) (discharges_fit c.args.cut.now c.args.outcome.now.discharges c.requires.cut c.requires.proves.lawful)

pub weighted_total-requires-clause-discharges : goal.weighted_total-requires-clause-discharges
weighted_total-requires-clause-discharges c =
    let small = subst (All (λ (d : ℕ). d ≤ MOST_AMOUNT)) (sym c.discharges-2.ensures) (lawful_fits.small c.args.cut.now c.args.outcome.now.discharges c.requires.cut c.requires.proves.lawful) in
    λ k within. small k 0 within
