use Rattle.std.proofs.Common.{List, ℕ, Bor, map, ap, ◌∙◌}
use Rattle.request_text.proofs.Words.{found_line, bad_line}
use Rattle.request_text.proofs.fields.read_line.Goals as goal

pub returns-clause-found : goal.returns-clause-found
returns-clause-found c =
    let e = ap (map (λ (f : Bor (List ℕ)). f.now)) c.as_slice.ensures.value ∙ c.in_ok-fields.ensures in
    found_line c.joined_fields_are_cut_again.ensures.law c.args.line.now _ c.read_fields.result e c.read_fields.ensures.found

pub returns-clause-bad : goal.returns-clause-bad
returns-clause-bad c =
    let e = ap (map (λ (f : Bor (List ℕ)). f.now)) c.as_slice.ensures.value ∙ c.in_ok-fields.ensures in
    bad_line c.args.line.now _ c.read_fields.result e c.read_fields.ensures.bad
