use Rattle.request_text.proofs.Given.{receive_bad, receive_found}
use Rattle.request_text.proofs.fields.receive_act.Goals as goal

pub returns-clause-found : goal.returns-clause-found
returns-clause-found c =
    receive_found c.args.args.now c.in-len3.len_at_least c.in-len3.len_below c.in_ok-key.key c.in-Some.amount c.in_ok-key.ensures.found c.in-Some.ensures.found

pub returns-in_default-amount_at-clause-bad : goal.returns-in_default-amount_at-clause-bad
returns-in_default-amount_at-clause-bad c =
    receive_bad c.args.args.now c.in-len3.len_at_least c.in-len3.len_below c.in_ok-key.key c.in_ok-key.ensures.found c.in_default-amount_at.ensures.none
