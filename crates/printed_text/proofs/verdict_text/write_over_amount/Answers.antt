use Rattle.std.proofs.Common.{append_assoc, arith}
use Rattle.std.proofs.lemmas.Grind.{common_steps}
use Rattle.printed_text.proofs.verdict_text.write_over_amount.Goals as goal

pub returns : goal.returns
returns c = record {
  text = rw (c.write_named-2.ensures.text, c.write_named.ensures.text) (simp append_assoc);
  len = grind (arith, common_steps);
  room = grind (arith, common_steps);
}
