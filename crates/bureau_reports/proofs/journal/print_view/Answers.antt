use Rattle.bureau_reports.specs.Journals.{IsJournalDue, unviewed, unviewed_status, unviewed_text}
use Rattle.bureau_reports.proofs.Held.{few_opened}
use Rattle.bureau_reports.proofs.Viewed.{as_opening, book_due, tellable}
use Rattle.bureau_reports.proofs.Written.{wrote_for, wrote_line}
use Rattle.bureau_reports.proofs.journal.print_view.Goals as goal

-- ---- the books

pub print_books-status-requires-clause-no_register : goal.print_books-status-requires-clause-no_register
print_books-status-requires-clause-no_register g c = c.requires.no_register

pub print_books-status-requires-clause-few : goal.print_books-status-requires-clause-few
print_books-status-requires-clause-few g c = few_opened _ _ c.in-Ok.books.members c.len-len.ensures.legal c.in-Ok.ensures.ok

pub print_books-status-requires-clause-empty : goal.print_books-status-requires-clause-empty
print_books-status-requires-clause-empty g c = c.requires.empty

pub print_books-status-requires-clause-len : goal.print_books-status-requires-clause-len
print_books-status-requires-clause-len g c = c.requires.len

pub print_books-status-requires-clause-spare : goal.print_books-status-requires-clause-spare
print_books-status-requires-clause-spare g c = c.requires.spare

pub returns-in-Ok-clause-wrote : goal.returns-in-Ok-clause-wrote
returns-in-Ok-clause-wrote g c =
    wrote_for _ (IsJournalDue c.args.report.now _ _ _ _) _ _ _ (book_due c.args.report.now _ _ _ _ c.in-Ok.books.members c.in-Ok.ensures.ok) c.print_books-status.ensures.wrote

pub returns-in-Ok-clause-write_fault : goal.returns-in-Ok-clause-write_fault
returns-in-Ok-clause-write_fault g c = c.print_books-status.ensures.write_fault

pub returns-in-Ok-clause-quiet : goal.returns-in-Ok-clause-quiet
returns-in-Ok-clause-quiet g c = c.view.ensures.quiet

-- ---- there are no books

pub print_unviewed-requires-clause-tellable : goal.print_unviewed-requires-clause-tellable
print_unviewed-requires-clause-tellable g c = tellable _ _ _ _ c.in-Err.cause (as_opening _ _ _ _ c.in-Err.cause c.in-Err.ensures.err)

pub print_unviewed-requires-clause-empty : goal.print_unviewed-requires-clause-empty
print_unviewed-requires-clause-empty g c = c.requires.empty

pub print_unviewed-requires-clause-spare : goal.print_unviewed-requires-clause-spare
print_unviewed-requires-clause-spare g c = c.requires.spare

pub returns-in-Err-clause-wrote : goal.returns-in-Err-clause-wrote
returns-in-Err-clause-wrote g c =
    wrote_line (IsJournalDue c.args.report.now _ _ _ _) _ _ (unviewed_status c.args.report.now c.in-Err.cause) (unviewed_text c.args.report.now c.in-Err.cause) _ (unviewed c.in-Err.cause c.in-Err.ensures.err)
    c.print_unviewed.ensures.written

pub returns-in-Err-clause-write_fault : goal.returns-in-Err-clause-write_fault
returns-in-Err-clause-write_fault g c = c.print_unviewed.ensures.write_fault

pub returns-in-Err-clause-quiet : goal.returns-in-Err-clause-quiet
returns-in-Err-clause-quiet g c = c.view.ensures.quiet
