use Rattle.std.proofs.Common.{sym, ◌∙◌}
use Rattle.claim_book.specs.Book.{ledger_of}
use Rattle.read_copies.proofs.Touching.{no_claim_settled, sides_settled}
use Rattle.read_copies.proofs.changes.add_sides.Goals as goal

pub returns-in_ok-add_change-2 : goal.returns-in_ok-add_change-2
returns-in_ok-add_change-2 c =
    sides_settled (ledger_of c.args.book.now.history) c.args.table.now.rows c.args.changes.now.items c.add_change.new.changes.items c.add_change-in-Some.new.changes.items c.args.key.now c.in-Some.claim
    (sym c.claim.ensures ∙ c.in-Some.is) c.in_ok-add_change.ensures c.in_ok-add_change-2.ensures

pub returns-in_default : goal.returns-in_default
returns-in_default c =
    no_claim_settled (ledger_of c.args.book.now.history) c.args.table.now.rows c.args.changes.now.items c.add_change.new.changes.items c.args.key.now c.claim.result
    c.claim.ensures c.in_default.not-Some c.in_ok-add_change.ensures
