use Rattle.std.proofs.Common.{List, subst, arith}
use Rattle.std.proofs.lemmas.List.{take_all}
use Rattle.claim_history.specs.declared.entry.Entry.{Entry}
use Rattle.claim_book.specs.Book.{ledger_of}
use Rattle.read_copies.specs.Rows.{AreSettled}
use Rattle.read_copies.proofs.Touching.{is_touched, touched_next}
use Rattle.read_copies.proofs.changes.add_later.Goals as goal

pub loop-entry-preserved : goal.loop-entry-preserved
loop-entry-preserved c =
    touched_next (ledger_of c.args.book.now.history) c.args.table.now.rows c.args.changes.now.items c.loop-entry.changes.items c.add_touched.new.changes.items c.args.later.now
    c.loop-entry.entry-index c.entry-item.result c.loop-entry-test.true c.entry-item.is c.loop-entry.invariant c.in_ok-add_touched.ensures

pub returns : goal.returns
returns c =
    let l = ledger_of c.args.book.now.history in
    subst (λ (entries : List Entry). AreSettled l c.args.table.now.rows (is_touched l entries) c.args.changes.now.items c.loop-entry.changes.items)
    (take_all c.loop-entry.entry-index c.args.later.now (omega arith)) c.loop-entry.invariant
