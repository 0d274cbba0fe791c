use Rattle.served_lines.proofs.Bound.{bound_law}
use Rattle.served_lines.proofs.laws.no_line_is_full_within_the_bound.Goals as goal

pub returns : goal.returns
returns c = bound_law
