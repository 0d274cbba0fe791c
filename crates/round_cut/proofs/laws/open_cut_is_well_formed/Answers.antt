use Rattle.round_cut.proofs.OpenCut.{open_formed_law}
use Rattle.round_cut.proofs.laws.open_cut_is_well_formed.Goals as goal

pub returns : goal.returns
returns c = open_formed_law
