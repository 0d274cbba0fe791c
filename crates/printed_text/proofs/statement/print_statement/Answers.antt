use Rattle.std.proofs.Common.{ℕ, ◌<◌, ◌≤◌, ◌^◌, ◌++◌, All, refl, sym, subst}
use Rattle.std.specs.Prelude.{unsigned_abs}
use Rattle.setoff_model.specs.declared.limits.TheConstants.{SUM_LIMIT, MOST_WINDOW}
use Rattle.statement_text.specs.declared.line.Line.TheVariants as line
use Rattle.statement_text.specs.Statements.{party_lines, claim_lines}
use Rattle.printed_text.specs.Printing.{line_bytes, lines_bytes}
use Rattle.printed_text.proofs.Passing.{prints_as, prints_no_more, prints_then}
use Rattle.printed_text.proofs.Printing.{spends_fit, rooms_fit, prices_fit, price_each, discharges_fit, discharge_each, statement_of_lists}
use Rattle.printed_text.proofs.statement.print_statement.Goals as goal

pub print_parties-requires-clause-spends : goal.print_parties-requires-clause-spends
print_parties-requires-clause-spends g c =
    subst (All (λ f. f.spend ≤ MOST_WINDOW)) (sym c.parties.ensures) (spends_fit c.args.cut.now c.requires.printable.well_formed)

pub print_parties-requires-clause-rooms : goal.print_parties-requires-clause-rooms
print_parties-requires-clause-rooms g c =
    subst (All (λ f. f.room ≤ MOST_WINDOW)) (sym c.parties.ensures) (rooms_fit c.args.cut.now c.requires.printable.well_formed)

pub print_parties-requires-clause-price_each : goal.print_parties-requires-clause-price_each
print_parties-requires-clause-price_each g c = rw (c.prices.ensures, c.parties.ensures) (price_each c.args.cut.now c.args.outcome.now c.requires.printable)

pub print_parties-requires-clause-prices : goal.print_parties-requires-clause-prices
print_parties-requires-clause-prices g c =
    subst (All (λ p. unsigned_abs p < 10 ^ 9)) (sym c.prices.ensures) (prices_fit c.args.cut.now c.args.outcome.now c.requires.printable)

pub print_claims-requires-clause-discharges : goal.print_claims-requires-clause-discharges
print_claims-requires-clause-discharges g c =
    subst (All (λ (d : ℕ). d < SUM_LIMIT)) (sym c.discharges.ensures) (discharges_fit c.args.cut.now c.args.outcome.now.discharges c.requires.printable.well_formed c.requires.printable.proved.lawful)

pub print_claims-requires-clause-discharge_each : goal.print_claims-requires-clause-discharge_each
print_claims-requires-clause-discharge_each g c = rw c.discharges.ensures (discharge_each c.args.cut.now c.args.outcome.now.discharges c.requires.printable.proved.lawful)

pub returns-in_err-print_head : goal.returns-in_err-print_head
returns-in_err-print_head g c =
    let cut = c.args.cut.now in
    let outcome = c.args.outcome.now in
    let rest = lines_bytes (party_lines cut.parties outcome.prices) ++ (lines_bytes (claim_lines cut.parties cut.claims outcome.discharges) ++ line_bytes line.End) in
    let is = statement_of_lists cut outcome cut.parties outcome.prices outcome.discharges refl refl refl in
    prints_as (sym is) (prints_no_more rest c.from_residual.ensures.0 c.in_err-print_head.ensures)

pub returns-in_err-print_parties : goal.returns-in_err-print_parties
returns-in_err-print_parties g c =
    let cut = c.args.cut.now in
    let outcome = c.args.outcome.now in
    let rest = lines_bytes (claim_lines cut.parties cut.claims outcome.discharges) ++ line_bytes line.End in
    let is = statement_of_lists cut outcome c.parties.result.now c.prices.result.now outcome.discharges c.parties.ensures c.prices.ensures refl in
    prints_as (sym is) (prints_then c.in_ok-print_head.ensures (prints_no_more rest c.from_residual-in_err-print_parties.ensures.0 c.in_err-print_parties.ensures))

pub returns-in_err-print_claims : goal.returns-in_err-print_claims
returns-in_err-print_claims g c =
    let cut = c.args.cut.now in
    let outcome = c.args.outcome.now in
    let is = statement_of_lists cut outcome c.parties.result.now c.prices.result.now c.discharges.result.now c.parties.ensures c.prices.ensures c.discharges.ensures in
    prints_as (sym is) (prints_then c.in_ok-print_head.ensures (prints_then c.in_ok-print_parties.ensures (prints_no_more (line_bytes line.End) c.from_residual-in_err-print_claims.ensures.0 c.in_err-print_claims.ensures)))

pub returns : goal.returns
returns g c =
    let cut = c.args.cut.now in
    let outcome = c.args.outcome.now in
    let is = statement_of_lists cut outcome c.parties.result.now c.prices.result.now c.discharges.result.now c.parties.ensures c.prices.ensures c.discharges.ensures in
    prints_as (sym is) (prints_then c.in_ok-print_head.ensures (prints_then c.in_ok-print_parties.ensures (prints_then c.in_ok-print_claims.ensures c.print_end.ensures)))
