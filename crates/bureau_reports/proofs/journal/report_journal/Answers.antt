use Rattle.std.proofs.Common.{◌∙◌, refl, sym, arith}
use Rattle.disk_model.proofs.Moments.{passes_still}
use Rattle.weighed_round.specs.printed_text.specs.declared.exit_status.ExitStatus.TheVariants as statuses
use Rattle.weighed_round.specs.printed_text.specs.Texts.{memory_text}
use Rattle.bureau_reports.specs.Journals.{IsJournalDue, no_view_memory}
use Rattle.bureau_reports.proofs.Viewed.{journal_among, journal_rose}
use Rattle.bureau_reports.proofs.Written.{wrote_line}
use Rattle.bureau_reports.proofs.journal.report_journal.Goals as goal

-- ---- there was no memory for a line

pub returns-in_default-clause-wrote : goal.returns-in_default-clause-wrote
returns-in_default-clause-wrote g c = wrote_line (IsJournalDue c.args.report _ _ _ _) _ _ statuses.Memory memory_text _ no_view_memory c.tell_no_memory.ensures.written

pub returns-in_default-clause-among : goal.returns-in_default-clause-among
returns-in_default-clause-among g c = journal_among _ _ _ _ _ _ _ _ (returns-in_default-clause-wrote g c)

pub returns-in_default-clause-quiet : goal.returns-in_default-clause-quiet
returns-in_default-clause-quiet g c = record { same = refl; read = refl; crash = passes_still (g.D.Disk.seen c.args.disk.now) _; later = omega arith }

pub returns-in_default-clause-write_fault : goal.returns-in_default-clause-write_fault
returns-in_default-clause-write_fault g c = c.tell_no_memory.ensures.failed

pub returns-in_default-clause-disk_fault : goal.returns-in_default-clause-disk_fault
returns-in_default-clause-disk_fault g c = journal_rose _ _ _ _ _ _ _ _ (returns-in_default-clause-wrote g c)

-- ---- the register of a firm

pub print_account-requires-clause-register : goal.print_account-requires-clause-register
print_account-requires-clause-register g c = sym c.firm_of.ensures ∙ c.in-Some.is

pub print_account-requires-clause-empty : goal.print_account-requires-clause-empty
print_account-requires-clause-empty g c = c.in-Ok.ensures.empty

pub print_account-requires-clause-spare : goal.print_account-requires-clause-spare
print_account-requires-clause-spare g c = c.in-Ok.ensures.room

pub returns-in-Some-clause-wrote : goal.returns-in-Some-clause-wrote
returns-in-Some-clause-wrote g c = c.print_account.ensures.wrote

pub returns-in-Some-clause-among : goal.returns-in-Some-clause-among
returns-in-Some-clause-among g c = journal_among _ _ _ _ _ _ _ _ c.print_account.ensures.wrote

pub returns-in-Some-clause-quiet : goal.returns-in-Some-clause-quiet
returns-in-Some-clause-quiet g c = c.print_account.ensures.quiet

pub returns-in-Some-clause-write_fault : goal.returns-in-Some-clause-write_fault
returns-in-Some-clause-write_fault g c = c.print_account.ensures.write_fault

pub returns-in-Some-clause-disk_fault : goal.returns-in-Some-clause-disk_fault
returns-in-Some-clause-disk_fault g c = journal_rose _ _ _ _ _ _ _ _ c.print_account.ensures.wrote

-- ---- another report

pub print_view-requires-clause-no_register : goal.print_view-requires-clause-no_register
print_view-requires-clause-no_register g c = sym c.firm_of.ensures ∙ c.in-None.is

pub print_view-requires-clause-empty : goal.print_view-requires-clause-empty
print_view-requires-clause-empty g c = c.in-Ok.ensures.empty

pub print_view-requires-clause-len : goal.print_view-requires-clause-len
print_view-requires-clause-len g c = c.in-Ok.ensures.len

pub print_view-requires-clause-spare : goal.print_view-requires-clause-spare
print_view-requires-clause-spare g c = c.in-Ok.ensures.room

pub returns-clause-wrote : goal.returns-clause-wrote
returns-clause-wrote g c = c.print_view.ensures.wrote

pub returns-clause-among : goal.returns-clause-among
returns-clause-among g c = journal_among _ _ _ _ _ _ _ _ c.print_view.ensures.wrote

pub returns-clause-quiet : goal.returns-clause-quiet
returns-clause-quiet g c = c.print_view.ensures.quiet

pub returns-clause-write_fault : goal.returns-clause-write_fault
returns-clause-write_fault g c = c.print_view.ensures.write_fault

pub returns-clause-disk_fault : goal.returns-clause-disk_fault
returns-clause-disk_fault g c = journal_rose _ _ _ _ _ _ _ _ c.print_view.ensures.wrote
