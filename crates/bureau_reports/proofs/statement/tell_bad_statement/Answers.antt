use Rattle.std.proofs.Common.{◌≡◌, ℕ, List, ◌++◌, ap, ◌∙◌, refl}
use Rattle.command_words.specs.declared.input_report.InputReport.TheVariants as inputs
use Rattle.weighed_round.specs.printed_text.specs.declared.exit_status.ExitStatus.TheVariants as statuses
use Rattle.weighed_round.specs.printed_text.specs.Texts.{bad_statement_text}
use Rattle.bureau_reports.specs.Inputs.{IsBadStatementTold, IsInputDue, IsStated, out_of_form}
use Rattle.bureau_reports.proofs.Written.{wrote_text}
use Rattle.bureau_reports.proofs.statement.tell_bad_statement.Goals as goal

-- ---- the line

pub returns-clause-check : goal.returns-clause-check
returns-clause-check g c =
    let text = bad_statement_text c.args.line c.args.cause in
    let said : c.as_slice.result.now ≡ text = c.as_slice.ensures.value ∙ c.write_bad_statement.ensures.text ∙ ap (λ (t : List ℕ). t ++ bad_statement_text c.args.line c.args.cause) c.in-Ok.ensures.items in
    let told : IsBadStatementTold c.args.input.now text = record { line = c.args.line; cause = c.args.cause; first = c.requires.first; has = c.requires.cause; text_is = refl } in
    wrote_text (IsInputDue inputs.Check c.args.input.now) _ _ statuses.Form text c.as_slice.result.now _ (out_of_form text told (λ (form : IsStated c.args.input.now). c.requires.none form.0 form.1 form.2)) said c.end_with.ensures.written

pub returns-clause-explain : goal.returns-clause-explain
returns-clause-explain g c =
    let text = bad_statement_text c.args.line c.args.cause in
    let said : c.as_slice.result.now ≡ text = c.as_slice.ensures.value ∙ c.write_bad_statement.ensures.text ∙ ap (λ (t : List ℕ). t ++ bad_statement_text c.args.line c.args.cause) c.in-Ok.ensures.items in
    let told : IsBadStatementTold c.args.input.now text = record { line = c.args.line; cause = c.args.cause; first = c.requires.first; has = c.requires.cause; text_is = refl } in
    wrote_text (IsInputDue inputs.Explain c.args.input.now) _ _ statuses.Form text c.as_slice.result.now _ (out_of_form text told (λ (form : IsStated c.args.input.now). c.requires.none form.0 form.1 form.2)) said c.end_with.ensures.written
