use Rattle.std.proofs.Common.{◌≡◌, ◌∙◌, ℕ, List, ap, subst, sym, take, arith}
use Rattle.claim_history.specs.declared.call.PoolEntry.{PoolEntry}
use Rattle.claim_history.specs.Pools.{MayFollow, member_of}
use Rattle.printed_text.proofs.Members.{act_valid}
use Rattle.history_text.specs.Histories.{told_members}
use Rattle.history_text.proofs.Replayed.{may_follow, replayed_more}
use Rattle.history_text.proofs.replaying.replay_to.Goals as goal

pub told_at-shown-requires : goal.told_at-shown-requires
told_at-shown-requires c = omega (arith, c.loop-earlier-test.true, c.requires.place)

pub put_next-requires-clause-valid : goal.put_next-requires-clause-valid
put_next-requires-clause-valid c =
    act_valid (told_members c.args.pool.now c.args.books.now.members) c.told_len-len.ensures.legal c.told_len-len.ensures.valid c.loop-earlier.earlier (member_of c.told_at-shown.result.0 c.told_at-shown.result.1.now) c.told_at-shown.ensures

pub put_next-requires-clause-next : goal.put_next-requires-clause-next
put_next-requires-clause-next c =
    let m : PoolEntry = member_of c.told_at-shown.result.0 c.told_at-shown.result.1.now in
    subst (λ (h : List PoolEntry). MayFollow h m) (sym c.loop-earlier.invariant.replayed)
    (may_follow (told_members c.args.pool.now c.args.books.now.members) c.loop-earlier.earlier m c.told_at-shown.ensures c.told_len-len.ensures.legal)

pub loop-earlier-init : goal.loop-earlier-init
loop-earlier-init c = record {
  replayed = c.requires.first.are ∙ ap (λ (n : ℕ). take n (told_members c.args.pool.now c.args.books.now.members)) (sym c.len-from.ensures.len);
  few = omega (arith, c.requires.first.few, c.len-from.ensures.len);
}

pub loop-earlier-preserved : goal.loop-earlier-preserved
loop-earlier-preserved c =
    let m : PoolEntry = member_of c.told_at-shown.result.0 c.told_at-shown.result.1.now in
    record {
      replayed = replayed_more (told_members c.args.pool.now c.args.books.now.members) c.loop-earlier.earlier m c.told_at-shown.ensures c.loop-earlier.replayed.members c.put_next.new.books.members c.loop-earlier.invariant.replayed c.in_ok-put_next.ensures.members;
      few = omega (arith, c.loop-earlier-test.true);
    }

pub returns : goal.returns
returns c =
    let end : c.loop-earlier.earlier ≡ c.args.place = omega (arith, c.loop-earlier-test.false, c.loop-earlier.invariant.few) in
    c.loop-earlier.invariant.replayed ∙ ap (λ (n : ℕ). take n (told_members c.args.pool.now c.args.books.now.members)) end
