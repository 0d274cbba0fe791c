use Rattle.register_laws.proofs.Rows.{last_row_law, no_row_law}
use Rattle.register_laws.proofs.laws.last_row_tells_the_position.Goals as goal

pub returns-clause-last : goal.returns-clause-last
returns-clause-last c = last_row_law

pub returns-clause-none : goal.returns-clause-none
returns-clause-none c = no_row_law
