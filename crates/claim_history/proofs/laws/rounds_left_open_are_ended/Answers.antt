use Rattle.claim_history.proofs.laws.rounds_left_open_are_ended.Goals as goal
use Rattle.claim_history.proofs.PoolEnds.{ended_law}

pub returns : goal.returns
returns c = ended_law
