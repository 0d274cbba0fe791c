-- What was due, from what a step wrote.
use Rattle.std.specs.Prelude.{Option}
use Rattle.std.proofs.Common.{ℕ, List}
use Rattle.weighed_round.specs.printed_text.specs.declared.exit_status.ExitStatus.{ExitStatus}
use Rattle.weighed_round.specs.printed_text.specs.declared.exit_status.ExitStatus.TheVariants as statuses
use Rattle.weighed_round.specs.printed_text.specs.Texts.{memory_text}
use Rattle.weighed_round.specs.printed_text.specs.Writing.{IsWritten, Wrote}
use Rattle.command_words.specs.declared.input_report.InputReport.{InputReport}
use Rattle.bureau_reports.specs.Inputs.{IsInputDue, no_report_memory}
pub use Rattle.journal_texts.proofs.Written.{no_other, told_status, written_after, written_as, wrote_among, wrote_for, wrote_line, wrote_text}

-- there was no memory for a report on an input
pub input_memory : (report : InputReport) (input : List ℕ) (x y : Option (List ℕ)) (status : ExitStatus) → IsWritten x y statuses.Memory memory_text status → Wrote (IsInputDue report input) x y status
input_memory report input x y status w = wrote_line (IsInputDue report input) x y statuses.Memory memory_text status no_report_memory w
