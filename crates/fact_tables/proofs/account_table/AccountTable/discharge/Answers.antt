use Rattle.std.specs.Prelude.{map}
use Rattle.std.proofs.Common.{List, length, sym, ◌∙◌, ap, refl, subst}
use Rattle.std.proofs.lemmas.List.{length-map}
use Rattle.claim_history.specs.declared.fact.AccountFact.{AccountFact}
use Rattle.fact_tables.specs.Settling.{settled_account}
use Rattle.fact_tables.specs.Tables.{AccountsView, AreSmall, AreAccountsOf, FirmsOnce}
use Rattle.fact_tables.proofs.Keyed.{as_long, firms_once, same_keys, took_back}
use Rattle.fact_tables.proofs.account_table.AccountTable.discharge.Goals as goal

pub discharge_accounts-requires-clause-once : goal.discharge_accounts-requires-clause-once
discharge_accounts-requires-clause-once c = subst FirmsOnce (sym c.deref_mut.ensures.value) c.self.invariant.kept.once

pub invariant_of-self : goal.invariant_of-self
invariant_of-self c =
    let step = settled_account (record { cut = c.args.cut.now; discharges = c.args.discharges.now }) in
    let facts = c.self.inside.facts.items in
    let new = c.discharge_accounts.new.accounts in
    let is = c.discharge_accounts.ensures ∙ ap (map step) c.deref_mut.ensures.value in
    let firms = ap (map (λ (a : AccountFact). a.firm)) is ∙ same_keys (λ (a : AccountFact). a.firm) step facts (λ a. refl) in
    let long = ap length c.discharge_accounts.ensures ∙ length-map c.deref_mut.result.now step ∙ c.deref_mut.ensures.len in
    subst (λ (rows : List AccountFact). AreAccountsOf c.self.inside.names.names rows c.self.inside.marks.items) (sym (took_back c.self.inside.facts.len new _ long))
    (record {
      names_are = c.self.invariant.names_are ∙ sym firms;
      one_each = c.self.invariant.one_each ∙ sym (as_long (λ (a : AccountFact). a.firm) new facts firms);
      kept = record {
        once = firms_once facts new firms c.self.invariant.kept.once;
        small = subst AreSmall (sym (is ∙ ap (λ (t : AccountsView). map step t.facts) c.self.view_is)) c.requires.small;
      };
    })
