use Rattle.register_laws.proofs.Rows.{running_law}
use Rattle.register_laws.proofs.laws.balances_run_from_row_to_row.Goals as goal

pub returns : goal.returns
returns c = running_law
