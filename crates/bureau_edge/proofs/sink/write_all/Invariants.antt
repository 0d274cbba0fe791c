use Rattle.std.proofs.Common.{◌≡◌, length}
use Rattle.bureau_edge.proofs.Written.{Written}
use Rattle.bureau_edge.proofs.sink.write_all.Given as goal

abbrev pub invariant-loop-rest : goal.invariant-loop-rest
invariant-loop-rest g l = record {
  written : Written (g.K.Sink.held l.fn.sink) (g.K.Sink.held l.sink) l.piece l.rest;
  kept : g.K.Sink.faults l.sink ≡ g.K.Sink.faults l.fn.sink;
}

abbrev pub decreases-loop-rest : goal.decreases-loop-rest
decreases-loop-rest g l = length l.rest
