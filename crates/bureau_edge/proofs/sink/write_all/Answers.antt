use Rattle.std.proofs.Common.{arith, subst, sym, List, ℕ}
use Rattle.bureau_edge.proofs.Written.{Written, goes_on}
use Rattle.bureau_edge.proofs.sink.write_all.Goals as goal

pub loop-rest-preserved : goal.loop-rest-preserved
loop-rest-preserved g c =
    let old = g.K.Sink.held c.args.sink.now in
    let next = g.K.Sink.held c.write.new.self in
    record {
      written = subst (λ (rest : List ℕ). Written old next c.args.piece.now rest) (sym c.split_at.ensures.back)
          (goes_on old (g.K.Sink.held c.loop-rest.sink) next c.args.piece.now c.loop-rest.rest.now c.in_ok-count.count c.loop-rest.invariant.written c.in_ok-count.ensures.bytes);
      kept = omega (arith, c.in_ok-count.ensures.cause.kept, c.loop-rest.invariant.kept);
    }
