use Rattle.std.proofs.Common.{◌∙◌, ◌∷◌, [], refl, sym}
use Rattle.weighed_round.specs.printed_text.specs.declared.exit_status.ExitStatus.TheVariants as statuses
use Rattle.weighed_round.specs.printed_text.proofs.Statuses.{other_than}
use Rattle.bureau_reports.specs.Journals.{IsJournalDue, report_status, unviewed, unviewed_status, unviewed_text}
use Rattle.bureau_reports.proofs.Accounts.{status_is, told_by, wrote_account}
use Rattle.bureau_reports.proofs.Viewed.{as_opening, tellable, told_among}
use Rattle.bureau_reports.proofs.Written.{wrote_line}
use Rattle.bureau_reports.proofs.journal.print_account.Goals as goal

-- ---- the register

pub end_with-requires : goal.end_with-requires
end_with-requires g c = λ sink.
    let t = told_by c.args.report.now c.args.firm _ _ c.pool.result c.in-Ok.told c.pool.ensures c.in-Ok.ensures.ok in
    other_than statuses.Sink (statuses.Done ∷ statuses.No ∷ []) (report_status c.args.report.now t.history) refl
    (sym (status_is c.args.report.now c.args.firm c.requires.register _ _ c.in-Ok.told t) ∙ sink) (told_among c.args.report.now t.history)

pub returns-in-Ok-clause-wrote : goal.returns-in-Ok-clause-wrote
returns-in-Ok-clause-wrote g c =
    wrote_account c.args.report.now c.args.firm c.requires.register _ _ c.in-Ok.told (told_by c.args.report.now c.args.firm _ _ c.pool.result c.in-Ok.told c.pool.ensures c.in-Ok.ensures.ok)
    _ _ _ _ c.as_slice.result.now _ c.as_slice.ensures.value c.end_with.ensures.written

pub returns-in-Ok-clause-write_fault : goal.returns-in-Ok-clause-write_fault
returns-in-Ok-clause-write_fault g c = c.end_with.ensures.failed

pub returns-in-Ok-clause-quiet : goal.returns-in-Ok-clause-quiet
returns-in-Ok-clause-quiet g c = c.view_account.ensures.quiet

-- ---- there is none

pub print_unviewed-requires-clause-tellable : goal.print_unviewed-requires-clause-tellable
print_unviewed-requires-clause-tellable g c = tellable _ _ _ _ c.in-Err.cause (as_opening _ _ _ _ c.in-Err.cause c.in-Err.ensures.err)

pub print_unviewed-requires-clause-empty : goal.print_unviewed-requires-clause-empty
print_unviewed-requires-clause-empty g c = c.requires.empty

pub print_unviewed-requires-clause-spare : goal.print_unviewed-requires-clause-spare
print_unviewed-requires-clause-spare g c = c.requires.spare

pub returns-in-Err-clause-wrote : goal.returns-in-Err-clause-wrote
returns-in-Err-clause-wrote g c =
    wrote_line (IsJournalDue c.args.report.now _ _ _ _) _ _ (unviewed_status c.args.report.now c.in-Err.cause) (unviewed_text c.args.report.now c.in-Err.cause) _ (unviewed c.in-Err.cause c.in-Err.ensures.err)
    c.print_unviewed.ensures.written

pub returns-in-Err-clause-write_fault : goal.returns-in-Err-clause-write_fault
returns-in-Err-clause-write_fault g c = c.print_unviewed.ensures.write_fault

pub returns-in-Err-clause-quiet : goal.returns-in-Err-clause-quiet
returns-in-Err-clause-quiet g c = c.view_account.ensures.quiet
