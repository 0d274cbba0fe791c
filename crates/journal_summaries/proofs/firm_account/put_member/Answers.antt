use Rattle.std.proofs.Common.{◌∙◌, List, subst, sym}
use Rattle.printed_text.specs.claim_history.specs.declared.call.PoolEntry.{PoolEntry}
use Rattle.printed_text.specs.claim_history.specs.declared.entry.Entry.{Entry}
use Rattle.printed_text.specs.claim_history.specs.Pools.{member_of}
use Rattle.printed_text.proofs.Members.{act_valid}
use Rattle.journal_summaries.specs.Replay.{IsLast}
use Rattle.journal_summaries.proofs.Registers.{ends_at, is_last, other_held, own_held}
use Rattle.journal_summaries.proofs.firm_account.put_member.Goals as goal

pub put_own-requires-clause-valid : goal.put_own-requires-clause-valid
put_own-requires-clause-valid c =
    act_valid c.args.books.now.members c.len-len.ensures.legal c.len-len.ensures.valid _ (member_of c.member-named.result.0 c.member-named.result.1.now) c.member-named.ensures

pub put_own-requires-clause-last : goal.put_own-requires-clause-last
put_own-requires-clause-last c =
    let members = c.args.books.now.members in
    let m : PoolEntry = member_of c.member-named.result.0 c.member-named.result.1.now in
    let at = ends_at members c.args.cut.now c.requires c.len-len.result c.len-len.ensures.len m c.member-named.ensures in
    subst (λ (es : List Entry). IsLast es m.entry c.args.cut.now) (sym c.book.ensures)
    (is_last members c.requires.before m at.0 c.args.pool.now c.args.firm.now (sym c.eq.ensures ∙ c.if-eq.true) c.args.cut.now c.len-len.ensures.legal at.1 at.2 c.len-len.ensures.valid)

pub returns-in_ok-put_own : goal.returns-in_ok-put_own
returns-in_ok-put_own c = λ before last parts held.
    let m : PoolEntry = member_of c.member-named.result.0 c.member-named.result.1.now in
    own_held c.args.books.now.members c.args.cut.now c.requires c.len-len.result c.len-len.ensures.len m c.member-named.ensures
    c.args.pool.now c.args.firm.now before last parts c.args.table.now held (sym c.eq.ensures ∙ c.if-eq.true) c.len-len.ensures.legal c.book.result.now.history c.book.ensures c.put_own.new.table c.in_ok-put_own.ensures

pub returns-else-eq : goal.returns-else-eq
returns-else-eq c = λ before last parts held.
    let m : PoolEntry = member_of c.member-named.result.0 c.member-named.result.1.now in
    other_held c.args.books.now.members c.args.cut.now c.requires c.len-len.result c.len-len.ensures.len m c.member-named.ensures
    c.args.pool.now c.args.firm.now before last parts c.args.table.now held (sym c.eq.ensures ∙ c.if-eq.false)
