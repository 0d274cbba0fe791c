use Rattle.std.proofs.Common.{subst, arith}
use Rattle.std.proofs.lemmas.List.{take_all}
use Rattle.claim_book.specs.Book.{ledger_of}
use Rattle.read_copies.proofs.Settled.{AreSettledOf, settled_next, settled_all}
use Rattle.read_copies.proofs.changes.add_all.Goals as goal

pub loop-account-preserved : goal.loop-account-preserved
loop-account-preserved c =
    let next = settled_next (ledger_of c.args.book.now.history) c.args.table.now.rows c.args.changes.now.items c.loop-account.changes.items c.add_change.new.changes.items c.accounts-account-items.result.now
    c.loop-account.account-index c.account-item.result c.loop-account-test.true c.account-item.is c.loop-account.invariant.added c.loop-account.invariant.each c.in_ok-add_change.ensures in
    record { added = next.0; each = next.1 }

pub returns : goal.returns
returns c =
    let l = ledger_of c.args.book.now.history in
    let accounts = c.accounts-account-items.result.now in
    settled_all l c.args.table.now.rows c.args.changes.now.items c.loop-account.changes.items accounts c.accounts-account-items.ensures.accounts c.loop-account.invariant.added
    (subst (AreSettledOf l c.args.table.now.rows c.loop-account.changes.items) (take_all c.loop-account.account-index accounts (omega arith)) c.loop-account.invariant.each)
