use Rattle.std.proofs.Common.{◌++◌, ◌∙◌, ℕ, ap, arith, decimal, length, length-append}
use Rattle.std.proofs.lemmas.Grind.{common_steps}
use Rattle.std.proofs.lemmas.Fmt.{length-decimal-le}
use Rattle.entry_text.proofs.entry.write_caller.Goals as goal

pub returns : goal.returns
returns c = record {
  text = grind (arith, common_steps);
  len =
      omega (
        arith,
        ap length (c.write_whole.ensures.text ∙ ap (λ (n : ℕ). c.args.buffer.now.items ++ decimal n) c.from.ensures),
        length-append c.args.buffer.now.items (decimal c.args.caller),
        length-decimal-le 10 c.args.caller (omega arith) (omega (arith, c.ranges.caller.fits)) (omega (arith, c.ranges.caller.fits)),
      );
  room = grind (arith, common_steps);
}
