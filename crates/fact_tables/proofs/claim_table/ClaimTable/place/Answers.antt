use Rattle.std.specs.Prelude.{position}
use Rattle.std.proofs.Common.{sym, ◌∙◌, ap}
use Rattle.setoff_model.specs.Same.{same_key}
use Rattle.claim_history.specs.declared.fact.ClaimFact.{ClaimFact}
use Rattle.name_index.proofs.Rows.{row_place}
use Rattle.fact_tables.specs.Tables.{ClaimsView}
use Rattle.fact_tables.proofs.claim_table.ClaimTable.place.Goals as goal

pub returns : goal.returns
returns c =
    sym (row_place (λ (r : ClaimFact). r.key) c.self.inside.keys.keys c.self.inside.facts.items c.self.invariant.keys_are (same_key c.args.key.now) _ c.place.ensures)
    ∙ ap (λ (t : ClaimsView). position (λ (r : ClaimFact). same_key c.args.key.now r.key) t.facts) c.self.view_is
