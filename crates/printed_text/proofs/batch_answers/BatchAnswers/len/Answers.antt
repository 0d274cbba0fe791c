use Rattle.std.proofs.Common.{◌-◌, ◌∙◌, length, ap, sym}
use Rattle.std.proofs.lemmas.List.{length-map}
use Rattle.std.proofs.lemmas.List.FromFn.{length-map-range_with_len}
use Rattle.served_lines.specs.request_text.specs.declared.request.Request.{Request}
use Rattle.printed_text.specs.declared.batch_answers.BatchAnswers.{BatchAnswers}
use Rattle.printed_text.specs.Printing.{answers_in, without_memory}
use Rattle.printed_text.proofs.batch_answers.BatchAnswers.len.Goals as goal

pub returns-in-Each : goal.returns-in-Each
returns-in-Each c = sym (ap (λ (t : BatchAnswers). length (answers_in t)) c.in-Each.is)

pub returns-in-Unasked : goal.returns-in-Unasked
returns-in-Unasked c = sym (ap (λ (t : BatchAnswers). length (answers_in t)) c.in-Unasked.is ∙ length-map c.in-Unasked.requests.now (λ (r : Request). without_memory r.line))

pub returns-in-UnaskedLines : goal.returns-in-UnaskedLines
returns-in-UnaskedLines c =
    let first = c.in-UnaskedLines.first in
    c.saturating_sub.ensures
    ∙ sym (ap (λ (t : BatchAnswers). length (answers_in t)) c.in-UnaskedLines.is ∙ length-map-range_with_len without_memory first (c.in-UnaskedLines.behind - first))
