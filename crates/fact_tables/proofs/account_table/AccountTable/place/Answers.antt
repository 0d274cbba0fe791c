use Rattle.std.specs.Prelude.{position}
use Rattle.std.proofs.Common.{sym, ◌∙◌, ap}
use Rattle.setoff_model.specs.Same.{same_name}
use Rattle.claim_history.specs.declared.fact.AccountFact.{AccountFact}
use Rattle.name_index.proofs.Rows.{row_place}
use Rattle.fact_tables.specs.Tables.{AccountsView}
use Rattle.fact_tables.proofs.account_table.AccountTable.place.Goals as goal

pub returns : goal.returns
returns c =
    sym (row_place (λ (r : AccountFact). r.firm) c.self.inside.names.names c.self.inside.facts.items c.self.invariant.names_are (same_name c.args.firm.now) _ c.place.ensures)
    ∙ ap (λ (t : AccountsView). position (λ (r : AccountFact). same_name c.args.firm.now r.firm) t.facts) c.self.view_is
