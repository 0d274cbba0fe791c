use Rattle.std.proofs.Common.{◌≡◌, ◌≤◌, ℕ, List, [], ◌++◌, All, length, vec_capacity}
use Rattle.printed_text.specs.setoff_model.specs.declared.limits.TheConstants.{OUTPUT_BYTES}
use Rattle.request_text.specs.declared.request.Request.{Request}
use Rattle.group_runs.specs.declared.limits.TheConstants.{GROUP_LINES}
use Rattle.group_runs.specs.Lines.{CanBeLoaded}
use Rattle.group_runs.specs.Runs.{HaveServedGroups, cut_batch}
use Rattle.group_runs.proofs.serving.serve_batch.Given as goal

abbrev pub invariant-loop-rest : goal.invariant-loop-rest
invariant-loop-rest g l = record {
  so_far : (times : ℕ) × (done : List (List Request)) × (length l.rest ≤ times) × (cut_batch (length l.fn.requests) l.fn.requests ≡ done ++ cut_batch times l.rest)
      × HaveServedGroups g.D.Disk.seen l.fn.loader l.loader done l.fn.tally l.tally (g.K.Sink.held l.fn.sink) (g.K.Sink.held l.sink)
      (g.W.Witness.shown l.fn.witness) (g.W.Witness.shown l.witness);
  can : All CanBeLoaded l.rest;
  list : GROUP_LINES ≤ vec_capacity l.answers;
  empty : l.buffer.items ≡ [];
  room : OUTPUT_BYTES ≤ vec_capacity l.buffer;
  kept : g.K.Sink.faults l.sink ≡ g.K.Sink.faults l.fn.sink;
}

abbrev pub decreases-loop-rest : goal.decreases-loop-rest
decreases-loop-rest g l = length l.rest
