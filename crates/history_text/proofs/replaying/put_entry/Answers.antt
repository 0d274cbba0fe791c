use Rattle.claim_history.specs.declared.call.PoolEntry.{PoolEntry}
use Rattle.claim_history.specs.Pools.{member_of}
use Rattle.history_text.proofs.Replayed.{opening_closes}
use Rattle.history_text.proofs.replaying.put_entry.Goals as goal

pub put_opening-requires-clause-closes : goal.put_opening-requires-clause-closes
put_opening-requires-clause-closes c =
    let m : PoolEntry = member_of c.args.pool c.args.entry in
    opening_closes c.args.books.now.members m c.in-Opened.round c.requires.next c.in-Opened.is
