use Rattle.std.specs.Prelude.{set}
use Rattle.std.proofs.Common.{true, sym, ◌∙◌, ap, subst}
use Rattle.setoff_model.specs.Same.{same_key}
use Rattle.claim_history.specs.declared.fact.ClaimFact.{ClaimFact}
use Rattle.fact_tables.specs.Tables.{ClaimsView, KeysOnce}
use Rattle.fact_tables.proofs.Marking.{marked_at, marked_none}
use Rattle.fact_tables.proofs.claim_table.ClaimTable.mark_claim.Goals as goal

pub returns-in-Some-clause-marks : goal.returns-in-Some-clause-marks
returns-in-Some-clause-marks c =
    λ test were.
    let once = subst (λ (t : ClaimsView). KeysOnce t.facts) c.self.view_is c.self.invariant.stand.once in
    ap (λ (t : ClaimsView). set t.marks c.in-Some.place true) c.self.view_is
    ∙ marked_at (λ (r : ClaimFact). same_key c.args.key.now r.key) test c.args.self.now.facts c.args.self.now.marks were c.in-Some.place (sym c.next_place.ensures ∙ c.in-Some.is) (once c.args.key.now)

pub returns-in_default-clause-marks : goal.returns-in_default-clause-marks
returns-in_default-clause-marks c =
    λ test were.
    marked_none (λ (r : ClaimFact). same_key c.args.key.now r.key) test c.args.self.now.facts c.args.self.now.marks were (sym c.next_place.ensures ∙ c.in_default.is)
