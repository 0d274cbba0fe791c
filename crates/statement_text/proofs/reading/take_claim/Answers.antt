use Rattle.std.proofs.Common.{refl, ap, ◌∙◌}
use Rattle.statement_text.specs.Drafts.{lines_of}
use Rattle.statement_text.proofs.Next.{claim_refused, claim_taken}
use Rattle.statement_text.proofs.reading.take_claim.Goals as goal

pub returns-in-Err-clause-bad : goal.returns-in-Err-clause-bad
returns-in-Err-clause-bad c = (refl, claim_refused c.args.draft c.args.key c.args.debtor c.args.amount c.args.discharge c.in-Err.ensures.stated c.in-Err.ensures.refused)

pub returns-in_ok-with_claim-in-Ok-clause-found : goal.returns-in_ok-with_claim-in-Ok-clause-found
returns-in_ok-with_claim-in-Ok-clause-found c = record {
  stated = c.in_ok-with_claim-in-Ok.ensures.stated;
  lines_are = ap lines_of c.in_ok-with_claim-in-Ok.ensures.more ∙ claim_taken c.args.draft c.in-Ok.claim c.args.key c.args.debtor c.args.amount c.args.discharge c.in-Ok.ensures.stated c.in-Ok.ensures.found.1;
}
