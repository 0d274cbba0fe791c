use Rattle.std.proofs.Common.{◌≡◌, ◌≤◌, [], take, vec_capacity}
use Rattle.printed_text.specs.setoff_model.specs.declared.limits.TheConstants.{OUTPUT_BYTES}
use Rattle.group_runs.specs.declared.limits.TheConstants.{GROUP_LINES}
use Rattle.group_runs.specs.declared.tally.Tally.{Tally}
use Rattle.group_runs.specs.Runs.{HaveServedGroups, IsTally, groups_of}
use Rattle.group_runs.proofs.serving.load_batches.Given as goal

abbrev pub invariant-loop-batch : goal.invariant-loop-batch
invariant-loop-batch g l = record {
  so_far : (none : Tally) × IsTally none [] × HaveServedGroups g.D.Disk.seen l.fn.loader l.loader (groups_of (take l.batch-index l.batches)) none l.tally
      (g.K.Sink.held l.fn.sink) (g.K.Sink.held l.sink) (g.W.Witness.shown l.fn.witness) (g.W.Witness.shown l.witness);
  list : GROUP_LINES ≤ vec_capacity l.answers;
  empty : l.buffer.items ≡ [];
  room : OUTPUT_BYTES ≤ vec_capacity l.buffer;
  kept : g.K.Sink.faults l.sink ≡ g.K.Sink.faults l.fn.sink;
}
