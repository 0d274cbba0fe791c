use Rattle.std.specs.Prelude.{pos, ◌-ℤ◌}
use Rattle.std.proofs.Common.{sym, ◌∙◌, ap, get_or, set}
use Rattle.std.proofs.lemmas.List.Quantifiers.{position-Some}
use Rattle.setoff_model.specs.Same.{same_name}
use Rattle.claim_history.specs.declared.fact.AccountFact.{AccountFact}
use Rattle.fact_tables.proofs.Places.{step_at, step_none}
use Rattle.fact_tables.proofs.Balances.{taken_out}
use Rattle.fact_tables.proofs.account_table.draw.Goals as goal

pub returns-in-Some : goal.returns-in-Some
returns-in-Some c =
    let found = sym c.account_near.ensures ∙ c.in-Some.is in
    let at = position-Some (λ (a : AccountFact). same_name c.args.firm.now a.firm) c.args.accounts.now c.in-Some.place c.index-accounts-place.result found in
    let old = get_or c.args.accounts.now c.in-Some.place c.index-accounts-place.result in
    ap (λ z. set c.args.accounts.now c.in-Some.place (record old { balance = z })) (taken_out old.balance c.args.amount (c.requires.near c.in-Some.place c.index-accounts-place.result at.0) c.requires.amount)
    ∙ step_at (λ (a : AccountFact). same_name c.args.firm.now a.firm) (λ a. record a { balance = a.balance -ℤ pos c.args.amount }) c.args.accounts.now c.in-Some.place c.index-accounts-place.result found (c.requires.once c.args.firm.now)

pub returns-in-None : goal.returns-in-None
returns-in-None c =
    step_none (λ (a : AccountFact). same_name c.args.firm.now a.firm) (λ a. record a { balance = a.balance -ℤ pos c.args.amount }) c.args.accounts.now (sym c.account_near.ensures ∙ c.in-None.is)
