-- The lines of a batch that got no answers, by their numbers.
use Rattle.std.specs.Prelude.{Option, Some, None}
use Rattle.std.proofs.Common.{◌≡◌, ◌∙◌, ℕ, ◌+◌, List, [], ◌∷◌, length, refl, sym, ap, ap₂}
use Rattle.batch_runs.specs.request_text.specs.declared.request.Request.{Request}
use Rattle.batch_runs.specs.served_lines.specs.declared.answer.Answer.{Answer}
use Rattle.batch_runs.specs.served_lines.specs.declared.line_end.LineEnd.TheVariants as ends
use Rattle.batch_runs.specs.printed_text.specs.Printing.{unanswered, unanswered_lines}
use Rattle.live_intake.specs.live_reading.specs.Reading.{AreNumbered}
use Rattle.batch_runs.specs.Serving.{answers_of, told_by}

numbered_same : (first : ℕ) (rs : List Request) → AreNumbered first rs → unanswered rs ≡ unanswered_lines first (length rs)
numbered_same first [] n = refl
numbered_same first (r ∷ rs) n =
    ap₂ (λ (l : ℕ) (list : List Answer). record { line = l; end = ends.Memory } ∷ list) n.0 (numbered_same (first + 1) rs n.1)

-- they are told by their numbers as by their requests
pub told_same : (first count : ℕ) (batch : List Request) (answers : Option (List Answer))
    → (answers ≡ None → AreNumbered first batch × (count ≡ length batch)) → told_by (unanswered_lines first count) answers ≡ answers_of batch answers
told_same first count batch None h =
    let k = h refl in ap (unanswered_lines first) k.1 ∙ sym (numbered_same first batch k.0)
told_same first count batch (Some a) h = refl
