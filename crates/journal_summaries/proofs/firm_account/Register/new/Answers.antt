use Rattle.std.proofs.Common.{[], refl, subst}
use Rattle.printed_text.specs.firm_notices.specs.Tables.{HoldsText}
use Rattle.printed_text.specs.firm_notices.proofs.Growing.{one_row}
use Rattle.journal_summaries.specs.Account.{account_names}
use Rattle.journal_summaries.proofs.firm_account.Register.new.Goals as goal

pub returns : goal.returns
returns c = record {
  pool_is = refl;
  firm_is = refl;
  rows = subst (HoldsText c.put_names.new.table) (one_row account_names) (c.in_ok-put_names.ensures [] c.new_table-table.ensures);
}
