use Rattle.std.specs.Prelude.{unsigned_abs}
use Rattle.std.proofs.Common.{◌+◌, ◌*◌, ◌≤◌, ◌^◌, slice_index, refl, sym, arith}
use Rattle.std.proofs.lemmas.Int.{ints}
use Rattle.residual_state.specs.Excesses.{excess_of}
use Rattle.residual_state.proofs.Adopted.{rebalanced_more, changed_bound}
use Rattle.residual_state.proofs.adopting.move_changes.Goals as goal

pub loop-arc-preserved : goal.loop-arc-preserved
loop-arc-preserved c =
    let arc = c.loop-arc.arc in
    let most = 2 ^ 100 + arc * 2 ^ 65 in (
      rebalanced_more c.args.edges.now c.args.before.now c.args.after.now c.args.excess.now c.loop-arc.excess c.change.new.excess c.change-in-loop-arc.new.excess arc c.edge_at-edge.result.tail c.edge_at-edge.result.head (slice_index c.args.before.now arc) (slice_index c.args.after.now arc) _ _
          (omega (arith, ints)) (omega (arith, ints)) c.loop-arc.invariant.0 (sym c.edge_at-edge.ensures.tail) (sym c.edge_at-edge.ensures.head) refl refl c.change.ensures c.change-in-loop-arc.ensures,
      λ v lt.
          let old : unsigned_abs (excess_of c.loop-arc.excess v) ≤ most = c.loop-arc.invariant.1 v (omega (arith, lt, c.change.ensures.one_each, c.change-in-loop-arc.ensures.one_each)) in
          let one = changed_bound c.loop-arc.excess c.change.new.excess c.edge_at-edge.result.tail v most _ c.change.ensures (omega (arith, ints)) old in
          let two = changed_bound c.change.new.excess c.change-in-loop-arc.new.excess c.edge_at-edge.result.head v (most + 2 ^ 64) _ c.change-in-loop-arc.ensures (omega (arith, ints)) one in
          omega (arith, two),
    )
