use Rattle.history_text.proofs.Accepted.{replayed_law, retold_law, statement_law}
use Rattle.history_text.proofs.laws.accepted_entries_are_told_again.Goals as goal

pub returns-clause-replayed : goal.returns-clause-replayed
returns-clause-replayed c = replayed_law

pub returns-clause-retold : goal.returns-clause-retold
returns-clause-retold c = retold_law

pub returns-clause-statement : goal.returns-clause-statement
returns-clause-statement c = statement_law
