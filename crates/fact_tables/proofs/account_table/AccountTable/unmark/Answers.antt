use Rattle.std.specs.Prelude.{vec_len, false}
use Rattle.std.proofs.Common.{◌∙◌, ap, arith}
use Rattle.std.proofs.lemmas.Simd.{splat_is_map}
use Rattle.fact_tables.specs.Marks.{no_marks}
use Rattle.fact_tables.specs.Tables.{AccountsView}
use Rattle.fact_tables.proofs.account_table.AccountTable.unmark.Goals as goal

pub returns-clause-marks : goal.returns-clause-marks
returns-clause-marks c =
    c.fill.ensures.items (λ _ e. e)
    ∙ splat_is_map c.self.inside.facts.items (vec_len c.self.inside.marks) false (omega (arith, c.self.invariant.one_each))
    ∙ ap (λ (t : AccountsView). no_marks t.facts) c.self.view_is
