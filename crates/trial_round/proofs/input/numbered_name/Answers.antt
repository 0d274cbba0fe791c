use Rattle.std.proofs.Common.{◌∙◌, ℕ, ◌++◌, ap, decimal}
use Rattle.trial_round.proofs.Named.{written_is_named}
use Rattle.trial_round.proofs.input.numbered_name.Goals as goal

pub unreachable-requires : goal.unreachable-requires
unreachable-requires c =
    let is = written_is_named c.clear.new.self.items c.put.new.buffer.items c.write_whole.new.buffer.items c.args.letter c.args.number c.requires.letter c.ranges.number.fits c.clear.ensures.items c.put.ensures.text (c.write_whole.ensures.text ∙ ap (λ (n : ℕ). c.put.new.buffer.items ++ decimal n) c.from.ensures) in
    cc (is, c.in-None.is, c.of.ensures.value, c.as_slice.ensures.value)
