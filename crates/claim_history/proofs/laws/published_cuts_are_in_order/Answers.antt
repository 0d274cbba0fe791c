use Rattle.claim_history.proofs.PoolCuts.{cuts_law}
use Rattle.claim_history.proofs.laws.published_cuts_are_in_order.Goals as goal

pub returns : goal.returns
returns c = cuts_law
