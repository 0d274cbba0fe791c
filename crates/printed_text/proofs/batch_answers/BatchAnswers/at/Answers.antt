use Rattle.std.proofs.Common.{◌-◌, ◌∙◌, ℕ, length, ap, sym, arith, rules}
use Rattle.std.specs.Prelude.{Some}
use Rattle.std.proofs.lemmas.List.{length-map}
use Rattle.std.proofs.lemmas.List.FromFn.{length-map-range_with_len}
use Rattle.served_lines.specs.request_text.specs.declared.request.Request.{Request}
use Rattle.served_lines.specs.declared.answer.Answer.{Answer}
use Rattle.printed_text.specs.declared.batch_answers.BatchAnswers.{BatchAnswers}
use Rattle.printed_text.specs.Printing.{answers_in, without_memory}
use Rattle.printed_text.proofs.Printing.{one_numbered, one_of, one_unasked}
use Rattle.printed_text.proofs.batch_answers.BatchAnswers.at.Goals as goal

pub bounds-answers-place : goal.bounds-answers-place
bounds-answers-place c = omega (arith, c.requires, ap (λ (t : BatchAnswers). length (answers_in t)) c.in-Each.is)

pub returns-in-Each : goal.returns-in-Each
returns-in-Each c = one_of c.args.self c.in-Each.answers.now c.args.place _ (ap answers_in c.in-Each.is) c.requires (search rules)

pub bounds-requests-place : goal.bounds-requests-place
bounds-requests-place c =
    omega (arith, c.requires, ap (λ (t : BatchAnswers). length (answers_in t)) c.in-Unasked.is, length-map c.in-Unasked.requests.now (λ (r : Request). without_memory r.line))

pub returns-in-Unasked : goal.returns-in-Unasked
returns-in-Unasked c =
    one_unasked c.args.self c.in-Unasked.requests.now c.args.place c.index-requests-place.result (ap answers_in c.in-Unasked.is) c.requires c.index-requests-place.is
    ∙ ap (λ (r : Request). Some (without_memory r.line)) c.index-requests-place.is ∙ ap (λ (a : Answer). Some a) (sym c.without_memory.ensures)

pub line_at-requires : goal.line_at-requires
line_at-requires c =
    let first = c.in-UnaskedLines.first in
    omega (arith, c.requires, ap (λ (t : BatchAnswers). length (answers_in t)) c.in-UnaskedLines.is, length-map-range_with_len without_memory first (c.in-UnaskedLines.behind - first))

pub returns-in-UnaskedLines : goal.returns-in-UnaskedLines
returns-in-UnaskedLines c =
    let first = c.in-UnaskedLines.first in
    one_numbered c.args.self first (c.in-UnaskedLines.behind - first) c.args.place (ap answers_in c.in-UnaskedLines.is) c.requires
    ∙ ap (λ (line : ℕ). Some (without_memory line)) (sym c.line_at.ensures) ∙ ap (λ (a : Answer). Some a) (sym c.without_memory-in-UnaskedLines.ensures)
