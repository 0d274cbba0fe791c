use Rattle.std.specs.Prelude.{find}
use Rattle.std.proofs.Common.{sym, ◌∙◌, ap, Some}
use Rattle.setoff_model.specs.Same.{same_key}
use Rattle.claim_history.specs.declared.fact.ClaimFact.{ClaimFact}
use Rattle.fact_tables.specs.Tables.{ClaimsView}
use Rattle.fact_tables.proofs.Places.{find_place, find_no_place}
use Rattle.name_index.proofs.Rows.{row_place}
use Rattle.fact_tables.proofs.claim_table.ClaimTable.find.Goals as goal

pub returns-in-None : goal.returns-in-None
returns-in-None c =
    let facts = c.self.inside.facts.items in
    let none = row_place (λ (r : ClaimFact). r.key) c.self.inside.keys.keys facts c.self.invariant.keys_are (same_key c.args.key.now) _ (sym c.in-None.is ∙ c.place.ensures) in
    find_no_place (λ (r : ClaimFact). same_key c.args.key.now r.key) facts none ∙ ap (λ (t : ClaimsView). find (λ (r : ClaimFact). same_key c.args.key.now r.key) t.facts) c.self.view_is

pub returns-in-Some : goal.returns-in-Some
returns-in-Some c =
    let facts = c.self.inside.facts.items in
    let found = row_place (λ (r : ClaimFact). r.key) c.self.inside.keys.keys facts c.self.invariant.keys_are (same_key c.args.key.now) _ (sym c.in-Some.is ∙ c.place.ensures) in
    ap (λ (x : ClaimFact). Some x) c.index.ensures
    ∙ find_place (λ (r : ClaimFact). same_key c.args.key.now r.key) facts c.in-Some.place c.index.result.now found
    ∙ ap (λ (t : ClaimsView). find (λ (r : ClaimFact). same_key c.args.key.now r.key) t.facts) c.self.view_is
