use Rattle.std.proofs.Common.{append_assoc}
use Rattle.statement_text.proofs.writing.write_claim.Goals as goal

pub returns-clause-text : goal.returns-clause-text
returns-clause-text c none = rw (c.put.ensures.text, c.put_claim_at.ensures.text none) (simp append_assoc)
