use Rattle.request_text.proofs.Given.{offer_bad, offer_found}
use Rattle.request_text.proofs.fields.offer_act.Goals as goal

pub returns-clause-found : goal.returns-clause-found
returns-clause-found c =
    offer_found c.args.args.now c.in-len2.len_at_least c.in-len2.len_below c.in-Some.firm c.in-Some-limit_at.amount c.in-Some.ensures.found c.in-Some-limit_at.ensures.found

pub returns-in_default-limit_at-clause-bad : goal.returns-in_default-limit_at-clause-bad
returns-in_default-limit_at-clause-bad c =
    offer_bad c.args.args.now c.in-len2.len_at_least c.in-len2.len_below c.in-Some.firm c.in-Some.ensures.found c.in_default-limit_at.ensures.none
