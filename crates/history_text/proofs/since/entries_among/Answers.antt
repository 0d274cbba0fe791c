use Rattle.std.proofs.Common.{◌∙◌, sym, arith}
use Rattle.claim_history.specs.declared.call.PoolEntry.{PoolEntry}
use Rattle.claim_history.specs.Pools.{member_of}
use Rattle.history_text.proofs.Behind.{other_counted, own_counted}
use Rattle.history_text.proofs.since.entries_among.Goals as goal
use Rattle.history_text.proofs.since.entries_among.Goals.{else-eq, then-eq}

pub loop-place-preserved : goal.loop-place-preserved
loop-place-preserved c =
    let members = c.args.books.now.members in
    let pool = c.args.pool.now in
    let m : PoolEntry = member_of c.member-shown.result.0 c.member-shown.result.1.now in
    elim c.if-eq.branch [
      | then-eq w ↦ record {
        counted = omega (arith, w.count-is, c.loop-place.invariant.counted, own_counted members c.loop-place.place m c.member-shown.ensures pool (sym c.eq.ensures ∙ w.if-eq.true));
        few = omega (arith, w.count-is, c.loop-place.invariant.few);
      }
      | else-eq w ↦ record {
        counted = omega (arith, w.count-is, c.loop-place.invariant.counted, other_counted members c.loop-place.place m c.member-shown.ensures pool (sym c.eq.ensures ∙ w.if-eq.false));
        few = omega (arith, w.count-is, c.loop-place.invariant.few);
      }
    ]
