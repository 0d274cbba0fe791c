use Rattle.std.specs.Prelude.{position, Option, Some, IfSome}
use Rattle.std.proofs.Common.{◌≡◌, ℕ, sym, ◌∙◌, ap, subst}
use Rattle.setoff_model.specs.Same.{same_key}
use Rattle.claim_history.specs.declared.fact.ClaimFact.{ClaimFact}
use Rattle.name_index.proofs.Rows.{row_place}
use Rattle.fact_tables.specs.Tables.{ClaimsView}
use Rattle.fact_tables.proofs.claim_table.ClaimTable.next_place.Goals as goal

pub returns-in-Some : goal.returns-in-Some
returns-in-Some c =
    let key = c.args.key.now in
    let keys = c.self.inside.keys.keys in
    let found = subst (λ (r : Option ℕ). IfSome r (λ (place : ℕ). position (same_key key) keys ≡ Some place)) c.in-Some.is c.place_from.ensures.found in
    sym (row_place (λ (r : ClaimFact). r.key) keys c.self.inside.facts.items c.self.invariant.keys_are (same_key key) (Some c.in-Some.place) (sym found))
    ∙ ap (λ (t : ClaimsView). position (λ (r : ClaimFact). same_key key r.key) t.facts) c.self.view_is
