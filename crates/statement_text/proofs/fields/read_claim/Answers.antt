use Rattle.statement_text.proofs.Words.{none, no_discharge}
use Rattle.statement_text.proofs.fields.read_claim.Goals as goal

pub returns-in_err-discharge-clause-none : goal.returns-in_err-discharge-clause-none
returns-in_err-discharge-clause-none c = none _ (no_discharge c.args.creditor.now c.args.invoice.now c.args.debtor.now c.args.amount.now c.args.discharge.now c.in_err-discharge.ensures.none)
