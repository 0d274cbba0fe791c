use Rattle.request_text.proofs.Given.{no_limit}
use Rattle.request_text.proofs.fields.limit_at.Goals as goal

pub returns-clause-none : goal.returns-clause-none
returns-clause-none c = no_limit c.read_amount.result c.args.field.now c.read_amount.ensures.none
