use Rattle.request_text.proofs.Given.{ceiling_bad, credit_bad, limit_found}
use Rattle.request_text.proofs.fields.limit_act.Goals as goal

pub returns-clause-found : goal.returns-clause-found
returns-clause-found c =
    limit_found c.args.args.now c.in-len3.len_at_least c.in-len3.len_below c.in-Some.firm c.in-Some-limit_at.credit c.in-Some-limit_at-2.ceiling c.in-Some.ensures.found c.in-Some-limit_at.ensures.found c.in-Some-limit_at-2.ensures.found

pub returns-in_default-limit_at-clause-bad : goal.returns-in_default-limit_at-clause-bad
returns-in_default-limit_at-clause-bad c =
    credit_bad c.args.args.now c.in-len3.len_at_least c.in-len3.len_below c.in-Some.firm c.in-Some.ensures.found c.in_default-limit_at.ensures.none

pub returns-in_default-limit_at-2-clause-bad : goal.returns-in_default-limit_at-2-clause-bad
returns-in_default-limit_at-2-clause-bad c =
    ceiling_bad c.args.args.now c.in-len3.len_at_least c.in-len3.len_below c.in-Some.firm c.in-Some-limit_at.credit c.in-Some.ensures.found c.in-Some-limit_at.ensures.found c.in_default-limit_at-2.ensures.none
