use Rattle.journal_summaries.proofs.Running.{balance_law}
use Rattle.journal_summaries.proofs.laws.balances_run_by_rows.Goals as goal

pub returns : goal.returns
returns c = balance_law
