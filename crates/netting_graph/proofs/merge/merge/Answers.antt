use Rattle.std.proofs.Common.{◌≡◌, ℕ, [], length, subst, arith}
use Rattle.setoff_model.specs.CutView.{obligations_of}
use Rattle.netting_graph.specs.NetView.{obligations_of_arcs}
use Rattle.netting_graph.specs.Merging.{IsMerged}
use Rattle.netting_graph.proofs.Added.{arc_small, merged_more}
use Rattle.netting_graph.proofs.merge.merge.Goals as goal

pub add_claim-requires-clause-room : goal.add_claim-requires-clause-room
add_claim-requires-clause-room c =
    λ k d in'.
    let small = arc_small c.loop-claim.claim-index k c.args.claims.now c.loop-claim.arcs.items [] d
    (c.loop-claim.invariant.merged []) (omega arith) c.requires.small in' in
    let own = c.requires.small c.loop-claim.claim-index c.claim-item.result c.loop-claim-test.true in
    rw c.claim-item.is (omega (arith, small, own))

pub loop-claim-preserved : goal.loop-claim-preserved
loop-claim-preserved c = record {
  tied = c.in_ok-add_claim.ensures.tied;
  merged = λ parties. merged_more c.loop-claim.claim-index c.args.claims.now c.claim-item.result c.loop-claim.arcs.items
      c.add_claim.new.arcs.items parties c.loop-claim-test.true c.claim-item.is (c.loop-claim.invariant.merged parties)
      c.in_ok-add_claim.ensures.added;
}

pub returns : goal.returns
returns c =
    λ parties.
    let end : c.loop-claim.claim-index ≡ length c.args.claims.now = omega arith in
    subst (λ (m : ℕ). IsMerged m (obligations_of parties c.args.claims.now) (obligations_of_arcs parties c.loop-claim.arcs.items)) end
    (c.loop-claim.invariant.merged parties)
