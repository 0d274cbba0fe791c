use Rattle.journal_summaries.proofs.Sealed.{seal_law}
use Rattle.journal_summaries.proofs.laws.same_acts_have_one_seal.Goals as goal

pub returns : goal.returns
returns c = seal_law
