use Rattle.std.proofs.Common.{◌≡◌, ℕ, List, ◌++◌, ap, ◌∙◌, refl}
use Rattle.weighed_round.specs.firm_notices.proofs.OneReading.{one_reading_law}
use Rattle.weighed_round.specs.printed_text.specs.declared.exit_status.ExitStatus.TheVariants as statuses
use Rattle.weighed_round.specs.printed_text.specs.Texts.{bad_row_text}
use Rattle.command_words.specs.declared.input_report.InputReport.TheVariants as inputs
use Rattle.bureau_reports.specs.Inputs.{IsBadRowTold, IsInForm, IsInputDue, out_of_form}
use Rattle.bureau_reports.proofs.Written.{wrote_text}
use Rattle.bureau_reports.proofs.import.tell_bad_row.Goals as goal

pub returns-clause-wrote : goal.returns-clause-wrote
returns-clause-wrote g c =
    let text = bad_row_text c.args.row c.args.cause in
    let said : c.as_slice.result.now ≡ text = c.as_slice.ensures.value ∙ c.write_bad_row.ensures.text ∙ ap (λ (t : List ℕ). t ++ bad_row_text c.args.row c.args.cause) c.in-Ok.ensures.items in
    let told : IsBadRowTold c.args.input.now text = record { row = c.args.row; cause = c.args.cause; first = c.requires; text_is = refl } in
    wrote_text (IsInputDue (inputs.Import c.args.lane) c.args.input.now) _ _ statuses.Form text c.as_slice.result.now _
    (out_of_form text told (λ (form : IsInForm (inputs.Import c.args.lane) c.args.input.now). one_reading_law.refused c.args.input.now form.0 c.args.row c.args.cause form.1 c.requires)) said c.end_with.ensures.written
