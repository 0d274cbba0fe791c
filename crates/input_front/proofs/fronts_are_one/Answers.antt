use Rattle.input_front.proofs.Fronts.{front_law}
use Rattle.input_front.proofs.fronts_are_one.Goals as goal

pub returns : goal.returns
returns c = record { law = front_law }
