use Rattle.printed_text.specs.claim_history.specs.Pools.{member_of}
use Rattle.journal_summaries.proofs.Counted.{pool_next}
use Rattle.journal_summaries.proofs.pool_list.pools_in.Goals as goal

pub loop-place-preserved : goal.loop-place-preserved
loop-place-preserved c =
    record { pools = pool_next c.args.books.now.members c.loop-place.place (member_of c.member-pool.result.0 c.member-pool.result.1.now) c.loop-place.names.keys c.add_name.new.names.keys c.member-pool.ensures c.loop-place.invariant.pools c.in_ok-add_name.ensures }
