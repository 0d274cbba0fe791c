use Rattle.std.proofs.Common.{take}
use Rattle.claim_book.specs.Book.{ledger_of}
use Rattle.read_copies.specs.Rows.{AreSettled}
use Rattle.read_copies.proofs.Touching.{is_touched}
use Rattle.read_copies.proofs.changes.add_later.Given as goal

-- each firm that an entry so far touches is settled
abbrev pub invariant-loop-entry : goal.invariant-loop-entry
invariant-loop-entry l = AreSettled (ledger_of l.book.history) l.table.rows (is_touched (ledger_of l.book.history) (take l.entry-index l.later)) l.fn.changes.items l.changes.items
