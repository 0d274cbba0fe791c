use Rattle.std.proofs.Common.{sym, ap, subst, arith}
use Rattle.round_cut.specs.claim_history.specs.History.{MayFollowInPool}
use Rattle.claim_book.specs.Book.{BookView}
use Rattle.claim_book.proofs.Parts.{may_stand, are_accounts, book_grows}
use Rattle.claim_book.proofs.Kept.{keeps_room}
use Rattle.claim_book.proofs.book.Book.apply.Goals as goal

pub apply-requires-clause-stand : goal.apply-requires-clause-stand
apply-requires-clause-stand c =
    let next = subst (λ (b : BookView). MayFollowInPool b.history c.args.entry) (sym c.self.view_is) c.requires.next in
    may_stand _ (book_grows _ c.args.entry c.self.invariant c.requires.valid c.requires.apart c.requires.no_opening next)

pub apply-requires-2-clause-accounts : goal.apply-requires-2-clause-accounts
apply-requires-2-clause-accounts c =
    let next = subst (λ (b : BookView). MayFollowInPool b.history c.args.entry) (sym c.self.view_is) c.requires.next in
    are_accounts _ (book_grows _ c.args.entry c.self.invariant c.requires.valid c.requires.apart c.requires.no_opening next)

pub invariant_of-self : goal.invariant_of-self
invariant_of-self c =
    let next = subst (λ (b : BookView). MayFollowInPool b.history c.args.entry) (sym c.self.view_is) c.requires.next in
    rw (c.put_entry.ensures.items, c.unmark_ended.ensures.claims, c.unmark_ended.ensures.accounts, c.unmark_ended.ensures.claim_marks, c.unmark_ended.ensures.account_marks, c.apply.ensures.facts, c.apply.ensures.marks, c.apply-2.ensures.facts, c.apply-2.ensures.marks, c.end_round.ensures)
    (book_grows _ c.args.entry c.self.invariant c.requires.valid c.requires.apart c.requires.no_opening next)

pub returns-clause-kept : goal.returns-clause-kept
returns-clause-kept c = keeps_room c.args.self.now.history c.args.entry c.args.self.now.room _ (λ other. c.requires.room)
    (omega (arith, ap (λ (b : BookView). b.room) c.self.view_is, c.apply.ensures.room, c.apply-2.ensures.room, c.unmark_ended.ensures.claim_room, c.unmark_ended.ensures.account_room, c.put_entry.ensures.len, c.put_entry.ensures.capacity))
