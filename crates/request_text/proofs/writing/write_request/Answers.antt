use Rattle.std.proofs.Common.{ℕ, ◌++◌, ◌∙◌, ap, decimal, arith}
use Rattle.std.proofs.lemmas.Grind.{common_steps}
use Rattle.request_text.proofs.ReadBack.{line_written}
use Rattle.request_text.proofs.writing.write_request.Goals as goal

pub returns : goal.returns
returns c = record {
  text =
      line_written c.args.buffer.now.items c.write_whole.new.buffer.items c.put.new.buffer.items c.write_pool.new.buffer.items c.write_act.new.buffer.items c.put-2.new.buffer.items c.args.lane c.args.pool.now c.args.act.now
      (c.write_whole.ensures.text ∙ ap (λ (n : ℕ). c.args.buffer.now.items ++ decimal n) c.from.ensures) c.put.ensures.text c.write_pool.ensures.text c.write_act.ensures.text c.put-2.ensures.text;
  len = grind (arith, common_steps);
  room = grind (arith, common_steps);
}
