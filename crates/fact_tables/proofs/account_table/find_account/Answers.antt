use Rattle.std.proofs.Common.{sym, ◌∙◌, ap, Some}
use Rattle.setoff_model.specs.Same.{same_name}
use Rattle.claim_history.specs.declared.fact.AccountFact.{AccountFact}
use Rattle.fact_tables.proofs.Places.{find_place, find_no_place}
use Rattle.fact_tables.proofs.account_table.find_account.Goals as goal

pub returns-in-Some : goal.returns-in-Some
returns-in-Some c =
    ap (λ (x : AccountFact). Some x) c.index-accounts-place.is
    ∙ find_place (λ (a : AccountFact). same_name c.args.firm.now a.firm) c.args.accounts.now c.in-Some.place c.index-accounts-place.result (sym c.account_place.ensures ∙ c.in-Some.is)

pub returns-in-None : goal.returns-in-None
returns-in-None c = find_no_place (λ (a : AccountFact). same_name c.args.firm.now a.firm) c.args.accounts.now (sym c.account_place.ensures ∙ c.in-None.is)
