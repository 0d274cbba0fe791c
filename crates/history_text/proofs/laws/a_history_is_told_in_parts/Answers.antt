use Rattle.history_text.proofs.Behind.{since_law}
use Rattle.history_text.proofs.laws.a_history_is_told_in_parts.Goals as goal

pub returns : goal.returns
returns c = record { since = since_law }
