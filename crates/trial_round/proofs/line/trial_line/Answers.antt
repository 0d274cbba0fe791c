use Rattle.trial_round.proofs.Pieces.{line_is}
use Rattle.trial_round.proofs.line.trial_line.Goals as goal

pub returns : goal.returns
returns c =
    line_is c.args.firms c.args.claims c.args.seed c.args.sums.claims c.args.sums.parties c.args.sums.total c.from.result
    c.in_ok-text.text.items c.write_count.new.buffer.items c.write_count-2.new.buffer.items c.write_count-3.new.buffer.items c.write_count-4.new.buffer.items c.write_count-5.new.buffer.items
    c.put.new.buffer.items c.write_cents.new.buffer.items c.put-2.new.buffer.items
    c.in_ok-text.ensures.items c.write_count.ensures.text c.write_count-2.ensures.text c.write_count-3.ensures.text c.write_count-4.ensures.text c.write_count-5.ensures.text
    c.put.ensures.text c.write_cents.ensures.written.text c.put-2.ensures.text c.from.ensures
