use Rattle.std.proofs.Common.{◌≡◌, ◌+◌, ◌-◌, ◌≤◌, [], vec_capacity}
use Rattle.batch_runs.specs.setoff_model.specs.declared.limits.TheConstants.{MOST_INPUT_BYTES, OUTPUT_BYTES}
use Rattle.live_runs.proofs.Going.{IsServing}
use Rattle.live_runs.proofs.serving.serve_input.Given as goal

abbrev pub invariant-loop-alloc : goal.invariant-loop-alloc
invariant-loop-alloc g l = record {
  serving : IsServing g.D.Disk.seen (g.S.Source.left l.fn.source) (g.S.Source.left l.source) (g.S.Source.faults l.fn.source) (g.S.Source.faults l.source)
      l.fn.desk (g.K.Sink.held l.fn.sink) (g.W.Witness.shown l.fn.witness) l.desk l.intake (g.K.Sink.held l.sink) (g.W.Witness.shown l.witness) l.tally;
  few : l.intake.served ≤ MOST_INPUT_BYTES + 2;
  empty : l.buffer.items ≡ [];
  room : OUTPUT_BYTES ≤ vec_capacity l.buffer;
  kept : g.K.Sink.faults l.sink ≡ g.K.Sink.faults l.fn.sink;
}

abbrev pub decreases-loop-alloc : goal.decreases-loop-alloc
decreases-loop-alloc g l = MOST_INPUT_BYTES + 3 - l.intake.served
