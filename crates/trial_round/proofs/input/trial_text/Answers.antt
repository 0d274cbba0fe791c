use Rattle.trial_round.proofs.Texts.{input_text}
use Rattle.trial_round.proofs.input.trial_text.Goals as goal

pub returns : goal.returns
returns c =
    input_text c.args.firms c.args.claims c.args.seed c.new-text.result.items c.write_firms.new.text.items c.write_claims.new.text.items c.write_close.new.text.items
    c.new-text.ensures.items c.in_ok-write_firms.ensures.text c.in_ok-write_claims.ensures c.in_ok-write_close.ensures
