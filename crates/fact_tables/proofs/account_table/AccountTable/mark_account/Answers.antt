use Rattle.std.specs.Prelude.{set}
use Rattle.std.proofs.Common.{true, sym, ◌∙◌, ap, subst}
use Rattle.setoff_model.specs.Same.{same_name}
use Rattle.claim_history.specs.declared.fact.AccountFact.{AccountFact}
use Rattle.fact_tables.specs.Tables.{AccountsView, FirmsOnce}
use Rattle.fact_tables.proofs.Marking.{marked_at, marked_none}
use Rattle.fact_tables.proofs.account_table.AccountTable.mark_account.Goals as goal

pub returns-in-Some-clause-marks : goal.returns-in-Some-clause-marks
returns-in-Some-clause-marks c =
    λ test were.
    let once = subst (λ (t : AccountsView). FirmsOnce t.facts) c.self.view_is c.self.invariant.kept.once in
    ap (λ (t : AccountsView). set t.marks c.in-Some.place true) c.self.view_is
    ∙ marked_at (λ (r : AccountFact). same_name c.args.firm.now r.firm) test c.args.self.now.facts c.args.self.now.marks were c.in-Some.place (sym c.place.ensures ∙ c.in-Some.is) (once c.args.firm.now)

pub returns-in_default-clause-marks : goal.returns-in_default-clause-marks
returns-in_default-clause-marks c =
    λ test were.
    marked_none (λ (r : AccountFact). same_name c.args.firm.now r.firm) test c.args.self.now.facts c.args.self.now.marks were (sym c.place.ensures ∙ c.in_default.is)
