use Rattle.std.proofs.Common.{sym}
use Rattle.setoff_model.specs.Same.{same_name}
use Rattle.claim_history.specs.declared.fact.AccountFact.{AccountFact}
use Rattle.name_index.proofs.Rows.{row_place}
use Rattle.fact_tables.proofs.account_table.account_near.Goals as goal

pub returns : goal.returns
returns c = sym (row_place (λ (a : AccountFact). a.firm) c.args.names.now.names c.args.accounts.now c.requires (same_name c.args.firm.now) c.place_near.result c.place_near.ensures)
