use Rattle.fact_tables.proofs.Balances.{near}
use Rattle.fact_tables.proofs.account_table.change_account.Goals as goal

pub fund-requires-clause-near : goal.fund-requires-clause-near
fund-requires-clause-near c = near c.args.accounts.now c.requires.small

pub draw-requires-clause-near : goal.draw-requires-clause-near
draw-requires-clause-near c = near c.args.accounts.now c.requires.small
