use Rattle.claim_history.proofs.laws.untouched_firms_stay.Goals as goal
use Rattle.claim_history.proofs.Touching.{touch_law}

pub returns : goal.returns
returns c = touch_law
