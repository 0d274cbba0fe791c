use Rattle.std.proofs.Common.{append_assoc, arith}
use Rattle.std.proofs.lemmas.Grind.{common_steps}
use Rattle.statement_text.proofs.writing.put_claim.Goals as goal

pub returns : goal.returns
returns c = record {
  text = rw (c.put_sums.ensures.text, c.put-2.ensures.text, c.put_names.ensures.text, c.put.ensures.text) (simp append_assoc);
  len = grind (arith, common_steps);
  room = grind (arith, common_steps);
}
