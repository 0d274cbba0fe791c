use Rattle.request_text.proofs.Given.{no_amount}
use Rattle.request_text.proofs.fields.amount_at.Goals as goal

pub returns-clause-none : goal.returns-clause-none
returns-clause-none c = no_amount c.read_claim_amount.result c.args.field.now c.read_claim_amount.ensures.none
