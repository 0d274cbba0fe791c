use Rattle.std.proofs.Common.{ap, arith, length, length-append, subst, sym, take}
use Rattle.sha2.specs.Hashers.{Holds256}
use Rattle.printed_text.specs.claim_history.specs.declared.call.PoolEntry.{PoolEntry}
use Rattle.printed_text.specs.claim_history.specs.Pools.{member_of}
use Rattle.printed_text.proofs.Members.{act_valid}
use Rattle.journal_summaries.specs.Seal.{record_of, records_of}
use Rattle.journal_summaries.proofs.Sealed.{records_next}
use Rattle.journal_summaries.proofs.seal_line.feed_first.Goals as goal

pub feed_record-requires : goal.feed_record-requires
feed_record-requires c =
    act_valid c.args.books.now.members c.len-len.ensures.legal c.len-len.ensures.valid c.loop-place.place (member_of c.member-pool.result.0 c.member-pool.result.1.now) c.member-pool.ensures

pub loop-place-preserved : goal.loop-place-preserved
loop-place-preserved c =
    let m : PoolEntry = member_of c.member-pool.result.0 c.member-pool.result.1.now in
    let members = c.args.books.now.members in
    let i = c.loop-place.place in
    let so_far = records_of (take i members) in
    let next = records_next members i m c.member-pool.ensures in
    record {
      fed = λ start. subst (Holds256 c.feed_record.new.hasher) (sym next) (c.in_ok-feed_record.ensures.fed so_far (c.loop-place.invariant.fed start));
      bytes = omega (arith, c.loop-place.invariant.bytes, c.in_ok-feed_record.ensures.length, c.from.ensures, ap length next, length-append so_far (record_of m));
      few = omega (arith, c.loop-place.invariant.few, c.in_ok-feed_record.ensures.few, c.from.ensures);
    }
