use Rattle.std.proofs.Common.{sym, ◌∙◌}
use Rattle.setoff_model.specs.Same.{same_name}
use Rattle.claim_history.specs.declared.fact.AccountFact.{AccountFact}
use Rattle.fact_tables.proofs.Places.{step_at, step_none}
use Rattle.fact_tables.proofs.account_table.set_offer.Goals as goal

pub returns-in-Some : goal.returns-in-Some
returns-in-Some c =
    step_at (λ (a : AccountFact). same_name c.args.firm.now a.firm) (λ a. record a { offer = c.args.amount }) c.args.accounts.now c.in-Some.place c.index-accounts-place.result
    (sym c.account_place.ensures ∙ c.in-Some.is) (c.requires.once c.args.firm.now)

pub returns-in_default : goal.returns-in_default
returns-in_default c =
    step_none (λ (a : AccountFact). same_name c.args.firm.now a.firm) (λ a. record a { offer = c.args.amount }) c.args.accounts.now (sym c.account_place.ensures ∙ c.in_default.is)
