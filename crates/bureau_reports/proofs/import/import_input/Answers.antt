use Rattle.std.proofs.Common.{◌≡◌, ◌∙◌, refl}
use Rattle.weighed_round.specs.firm_notices.specs.Invoices.{import_text}
use Rattle.command_words.specs.declared.input_report.InputReport.TheVariants as inputs
use Rattle.weighed_round.specs.printed_text.specs.declared.exit_status.ExitStatus.TheVariants as statuses
use Rattle.bureau_reports.specs.Inputs.{IsInputDue, reported}
use Rattle.bureau_reports.proofs.Written.{wrote_text}
use Rattle.bureau_reports.proofs.import.import_input.Goals as goal

pub returns-in-Ok-clause-wrote : goal.returns-in-Ok-clause-wrote
returns-in-Ok-clause-wrote g c =
    let filings = c.in-Ok.ensures.read.0 in
    let said : c.as_slice.result.now ≡ import_text c.args.lane filings = c.as_slice.ensures.value ∙ c.in-Ok.ensures.read.2 in
    wrote_text (IsInputDue (inputs.Import c.args.lane) c.args.input.now) _ _ statuses.Done (import_text c.args.lane filings) c.as_slice.result.now _
    (reported statuses.Done (import_text c.args.lane filings) (filings, c.in-Ok.ensures.read.1, refl, refl)) said c.end_with.ensures.written
