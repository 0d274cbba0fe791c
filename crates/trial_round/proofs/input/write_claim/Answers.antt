use Rattle.std.proofs.lemmas.Result.{on_ok_weaker}
use Rattle.trial_round.proofs.Claims.{cents_valid}
use Rattle.trial_round.proofs.Texts.{claim_text}
use Rattle.trial_round.proofs.input.write_claim.Goals as goal

pub write_filed-requires-clause-amount : goal.write_filed-requires-clause-amount
write_filed-requires-clause-amount c = cents_valid c.args.draws.now.seed c.args.number c.draw_claim-claim.result.amount c.draw_claim-claim.ensures.amount

pub returns-clause-text : goal.returns-clause-text
returns-clause-text c =
    on_ok_weaker c.write_filed.result
    (claim_text c.args.text.now.items c.write_filed.new.text.items c.args.firms c.args.draws.now.seed c.args.number c.draw_claim-claim.result.amount c.draw_claim-claim.result.key c.draw_claim-claim.result.debtor
    c.draw_claim-claim.ensures.key c.draw_claim-claim.ensures.debtor c.draw_claim-claim.ensures.amount)
    c.write_filed.ensures
