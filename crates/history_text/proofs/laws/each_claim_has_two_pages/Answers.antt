use Rattle.history_text.proofs.PageLines.{pages_law}
use Rattle.history_text.proofs.laws.each_claim_has_two_pages.Goals as goal

pub returns : goal.returns
returns c = record { pages = pages_law }
