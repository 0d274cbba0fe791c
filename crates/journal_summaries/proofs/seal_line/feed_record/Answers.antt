use Rattle.std.proofs.Common.{subst}
use Rattle.sha2.specs.Hashers.{Holds256}
use Rattle.journal_summaries.proofs.Sealed.{record_fed, record_long}
use Rattle.journal_summaries.proofs.seal_line.feed_record.Goals as goal

pub returns-clause-fed : goal.returns-clause-fed
returns-clause-fed c = λ m held.
    let fed = c.feed-4.ensures _ (c.feed-3.ensures _ (c.feed-2.ensures _ (c.feed.ensures m held))) in
    subst (Holds256 c.feed-4.new.hasher) (record_fed m c.put_body.new.body.items c.args.entry.now.caller c.in_ok-length.length c.args.pool.now c.args.entry.now.act c.requires c.in_ok-length.ensures.body c.in_ok-length.ensures.length)
    (rw (c.to_be_bytes.ensures, c.to_be_bytes-2.ensures, c.behind_caller.ensures, c.deref.ensures.value) at fed)

pub returns-clause-length : goal.returns-clause-length
returns-clause-length c = record_long c.args.entry.now.caller c.in_ok-length.length c.args.pool.now c.args.entry.now.act c.requires c.in_ok-length.ensures.length
