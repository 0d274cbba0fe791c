use Rattle.std.proofs.Common.{arith}
use Rattle.command_words.proofs.Commands.{no_number}
use Rattle.command_words.proofs.reading.read_number_in.Goals as goal

pub returns-in_default-clause-none : goal.returns-in_default-clause-none
returns-in_default-clause-none c = no_number c.args.text.now c.in-Some.number (omega arith) c.in-Some.ensures.found c.args.least c.args.most (omega (arith, c.ranges.most.fits))
    (λ low high. absurd (omega (arith, high, c.if-number-from.false, c.from-then-from-number.ensures)))

pub returns-in_default-2-clause-none : goal.returns-in_default-2-clause-none
returns-in_default-2-clause-none c = no_number c.args.text.now c.in-Some.number (omega arith) c.in-Some.ensures.found c.args.least c.args.most (omega (arith, c.ranges.most.fits))
    (λ low high. absurd (omega (arith, low, c.if-from-number.false, c.from.ensures)))
