use Rattle.request_text.proofs.Given.{firm_amount_bad, firm_amount_found}
use Rattle.request_text.proofs.fields.firm_and_amount.Goals as goal

pub returns-clause-found : goal.returns-clause-found
returns-clause-found c =
    firm_amount_found c.args.args.now c.in-len2.len_at_least c.in-len2.len_below c.in-Some.firm c.in-Some-amount_at.amount c.in-Some.ensures.found c.in-Some-amount_at.ensures.found

pub returns-in_default-amount_at-clause-bad : goal.returns-in_default-amount_at-clause-bad
returns-in_default-amount_at-clause-bad c =
    firm_amount_bad c.args.args.now c.in-len2.len_at_least c.in-len2.len_below c.in-Some.firm c.in-Some.ensures.found c.in_default-amount_at.ensures.none
