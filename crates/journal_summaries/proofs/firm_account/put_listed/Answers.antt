use Rattle.std.proofs.Common.{◌∙◌, sym}
use Rattle.printed_text.specs.claim_book.specs.Book.{ledger_of}
use Rattle.journal_summaries.specs.Account.{row_of}
use Rattle.journal_summaries.proofs.Registers.{position_known, row_is, rows_written}
use Rattle.journal_summaries.proofs.firm_account.put_listed.Goals as goal

pub returns : goal.returns
returns c =
    let l = ledger_of c.args.book.now.history in
    let position = position_known l c.args.firm.now c.in-Some.position c.requires.known (sym c.in-Some.is ∙ c.position.ensures) in
    let same = row_is c.args.firm.now c.args.number c.args.cut.now l c.args.entry.now c.flow_of-flow.result.added c.flow_of-flow.result.taken c.in-Some.position c.flow_of-flow.ensures.added c.flow_of-flow.ensures.taken position in
    rows_written c.put_entry.result c.args.table.now c.put_entry.new.table _ (row_of c.args.firm.now c.args.number c.args.cut.now l c.args.entry.now) same c.put_entry.ensures
