use Rattle.std.proofs.Common.{◌∙◌, ◌∷◌, [], List, ℕ, refl, subst, sym}
use Rattle.weighed_round.specs.printed_text.specs.declared.exit_status.ExitStatus.{ExitStatus}
use Rattle.weighed_round.specs.printed_text.specs.declared.exit_status.ExitStatus.TheVariants as statuses
use Rattle.weighed_round.specs.printed_text.specs.Texts.{memory_text}
use Rattle.weighed_round.specs.printed_text.specs.Writing.{IsWritten}
use Rattle.weighed_round.specs.printed_text.proofs.Statuses.{other_than}
use Rattle.bureau_reports.specs.Journals.{IsBookDue, IsTextOf, no_text_memory, report_status}
use Rattle.bureau_reports.proofs.Held.{wrote_made}
use Rattle.bureau_reports.proofs.Viewed.{told_among}
use Rattle.bureau_reports.proofs.Written.{wrote_line}
use Rattle.bureau_reports.proofs.journal.print_made.Goals as goal

pub text_of-requires : goal.text_of-requires
text_of-requires g c = c.requires

pub status_of-requires : goal.status_of-requires
status_of-requires g c = c.requires

pub end_with-requires : goal.end_with-requires
end_with-requires g c = λ sink.
    other_than statuses.Sink (statuses.Done ∷ statuses.No ∷ []) (report_status c.args.report.now c.args.books.now.members) refl (sym c.status_of.ensures ∙ sink) (told_among c.args.report.now c.args.books.now.members)

pub returns-in-Ok-clause-wrote : goal.returns-in-Ok-clause-wrote
returns-in-Ok-clause-wrote g c =
    wrote_made c.args.report.now c.args.books.now.members _ _ c.as_slice.result.now _
    (subst (λ (t : List ℕ). IsTextOf c.args.report.now c.args.books.now.members t) (sym c.as_slice.ensures.value) c.in-Ok.ensures)
    (subst (λ (s : ExitStatus). IsWritten (g.K.Sink.held c.args.sink.now) (g.K.Sink.held c.end_with.new.sink) s c.as_slice.result.now c.end_with.result) c.status_of.ensures c.end_with.ensures.written)

pub returns-in-Ok-clause-write_fault : goal.returns-in-Ok-clause-write_fault
returns-in-Ok-clause-write_fault g c = c.end_with.ensures.failed

pub returns-in-Err-clause-wrote : goal.returns-in-Err-clause-wrote
returns-in-Err-clause-wrote g c = wrote_line (IsBookDue c.args.report.now c.args.books.now.members) _ _ statuses.Memory memory_text _ no_text_memory c.tell_no_memory.ensures.written

pub returns-in-Err-clause-write_fault : goal.returns-in-Err-clause-write_fault
returns-in-Err-clause-write_fault g c = c.tell_no_memory.ensures.failed
