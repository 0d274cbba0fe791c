use Rattle.std.proofs.Common.{sym}
use Rattle.setoff_model.specs.Same.{same_name}
use Rattle.claim_history.specs.declared.fact.AccountFact.{AccountFact}
use Rattle.name_index.proofs.Rows.{row_place}
use Rattle.round_cut.proofs.parties.find_account.Goals as goal

pub returns : goal.returns
returns c = sym (row_place (λ (a : AccountFact). a.firm) c.args.firms.now.names c.args.accounts.now c.requires (same_name c.args.firm.now) c.place.result c.place.ensures)
