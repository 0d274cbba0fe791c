use Rattle.std.proofs.Common.{refl, subst, sym}
use Rattle.bureau_edge.specs.Streams.{TakesAll}
use Rattle.setoff_model.specs.declared.limits.TheConstants.{MOST_INPUT_BYTES}
use Rattle.live_runs.specs.printed_text.specs.declared.exit_status.ExitStatus.TheVariants as statuses
use Rattle.live_runs.specs.printed_text.proofs.Statuses.{other_than}
use Rattle.bureau_reports.specs.Inputs.{IsInputDue, input_statuses}
use Rattle.bureau_reports.specs.journal_texts.proofs.Inputs.{source_failed, wrote_read, wrote_unread}
use Rattle.bureau_commands.proofs.top.report_source.Goals as goal

pub returns-in-Ok-clause-wrote : goal.returns-in-Ok-clause-wrote
returns-in-Ok-clause-wrote g c =
    let taken = subst (TakesAll MOST_INPUT_BYTES (g.S.Source.left c.args.source.now) (g.S.Source.left c.read_whole.new.source)) (sym c.as_slice.ensures.value) c.in-Ok.ensures.all in
    wrote_read (IsInputDue c.args.report) (Unit {0}) _ _ _ _ c.as_slice.result.now c.report_input.result taken c.report_input.ensures.wrote

pub returns-in-Ok-clause-read_fault : goal.returns-in-Ok-clause-read_fault
returns-in-Ok-clause-read_fault g c = λ source. absurd (other_than statuses.Source input_statuses _ refl source c.report_input.ensures.among)

pub returns-in-Ok-clause-write_fault : goal.returns-in-Ok-clause-write_fault
returns-in-Ok-clause-write_fault g c = c.report_input.ensures.write_fault

pub returns-in-Err-clause-wrote : goal.returns-in-Err-clause-wrote
returns-in-Err-clause-wrote g c =
    wrote_unread (IsInputDue c.args.report) (Unit {0}) _ _ _ _ c.in-Err.end c.tell_unread.result tt c.in-Err.ensures.end c.tell_unread.ensures.written

pub returns-in-Err-clause-read_fault : goal.returns-in-Err-clause-read_fault
returns-in-Err-clause-read_fault g c = λ source. c.in-Err.ensures.failed (source_failed _ _ _ _ c.tell_unread.ensures.written source)

pub returns-in-Err-clause-write_fault : goal.returns-in-Err-clause-write_fault
returns-in-Err-clause-write_fault g c = c.tell_unread.ensures.write_fault

pub report_input-requires : goal.report_input-requires
report_input-requires g c = c.requires
