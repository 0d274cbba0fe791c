use Rattle.std.proofs.Common.{List, ℕ, Bor, map, ap, ◌∙◌}
use Rattle.statement_text.proofs.Words.{no_line}
use Rattle.statement_text.proofs.fields.read_line.Goals as goal

pub returns-clause-none : goal.returns-clause-none
returns-clause-none c =
    let e = ap (map (λ (f : Bor (List ℕ)). f.now)) c.as_slice.ensures.value ∙ c.in_ok-fields.ensures in
    no_line c.joined_fields_are_cut_again.ensures.law c.joined_fields_are_cut_again.ensures.no_space c.args.text.now _ c.line_of_fields.result e c.line_of_fields.ensures.none
