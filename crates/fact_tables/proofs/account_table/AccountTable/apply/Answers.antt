use Rattle.std.proofs.Common.{sym, subst}
use Rattle.fact_tables.specs.Tables.{AccountsView, FirmsOnce, accounts_with}
use Rattle.fact_tables.proofs.account_table.AccountTable.apply.Goals as goal

pub change_accounts-requires-clause-after : goal.change_accounts-requires-clause-after
change_accounts-requires-clause-after c = subst (λ (t : AccountsView). FirmsOnce (accounts_with c.args.entry.now t.facts)) (sym c.self.view_is) c.requires.accounts.once
