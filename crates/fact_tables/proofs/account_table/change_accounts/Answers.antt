use Rattle.std.specs.Prelude.{map, if◌then◌else◌}
use Rattle.std.proofs.Common.{Bool, sym, subst, ap, ◌∙◌}
use Rattle.setoff_model.specs.Same.{same_name}
use Rattle.setoff_model.proofs.SameNames.{name_same}
use Rattle.claim_history.specs.declared.act.Act.{Act}
use Rattle.claim_history.specs.declared.fact.AccountFact.{AccountFact}
use Rattle.fact_tables.specs.Tables.{AreSmall, FirmsOnce, accounts_after, new_account}
use Rattle.fact_tables.proofs.Keyed.{is_new, as_long, firms_stay, registers_none, took_back, written}
use Rattle.fact_tables.proofs.account_table.change_accounts.Goals as goal

pub add_account-requires-clause-new : goal.add_account-requires-clause-new
add_account-requires-clause-new c =
    let facts = c.args.accounts.now.items in
    let accepted = sym c.accepted.ensures ∙ c.if-not-accepted.false in
    let once = subst FirmsOnce (ap (λ (b : Bool). if b then accounts_after c.args.entry.now.act facts else facts) accepted ∙ ap (λ (a : Act). accounts_after a facts) c.in-Firm.is) c.requires.after in
    is_new (λ (a : AccountFact). a.firm) (same_name c.in-Firm.firm) c.args.names.now.names facts (new_account c.in-Firm.firm) c.requires.names (name_same c.in-Firm.firm) (once c.in-Firm.firm)

pub change_account-requires-clause-once : goal.change_account-requires-clause-once
change_account-requires-clause-once c = subst FirmsOnce (sym c.deref_mut.ensures.value) c.requires.once

pub change_account-requires-clause-small : goal.change_account-requires-clause-small
change_account-requires-clause-small c = subst AreSmall (sym c.deref_mut.ensures.value) c.requires.small

pub returns-in_default-clause-items : goal.returns-in_default-clause-items
returns-in_default-clause-items c =
    let facts = c.args.accounts.now.items in
    let act = c.args.entry.now.act in
    let accepted = sym c.accepted.ensures ∙ c.if-not-accepted.false in
    let long = as_long (λ (a : AccountFact). a.firm) c.change_account.new.accounts c.deref_mut.result.now (ap (map (λ (a : AccountFact). a.firm)) c.change_account.ensures ∙ firms_stay act c.deref_mut.result.now (registers_none act c.in_default.not-Firm)) in
    took_back c.args.accounts.now.len c.change_account.new.accounts _ (long ∙ c.deref_mut.ensures.len)
    ∙ c.change_account.ensures ∙ ap (accounts_after act) c.deref_mut.ensures.value
    ∙ ap (λ (b : Bool). if b then accounts_after act facts else facts) (sym accepted)

pub returns-in_default-clause-names : goal.returns-in_default-clause-names
returns-in_default-clause-names c =
    written (λ (a : AccountFact). a.firm) c.args.accounts.now.len c.args.names.now.names c.args.accounts.now.items c.change_account.new.accounts c.deref_mut.result.now _ c.requires.names
    (ap (map (λ (a : AccountFact). a.firm)) c.change_account.ensures ∙ firms_stay c.args.entry.now.act c.deref_mut.result.now (registers_none c.args.entry.now.act c.in_default.not-Firm)) c.deref_mut.ensures.value c.deref_mut.ensures.len
