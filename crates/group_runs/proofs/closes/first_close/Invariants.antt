use Rattle.std.specs.Prelude.{None, All}
use Rattle.std.proofs.Common.{◌≡◌, List, take, flat_map}
use Rattle.request_text.specs.declared.request.Request.{Request}
use Rattle.group_runs.specs.Lines.{CanBeLoaded, first_close_of}
use Rattle.group_runs.proofs.closes.first_close.Given as goal

abbrev pub invariant-loop-batch : goal.invariant-loop-batch
invariant-loop-batch l = record {
  none : first_close_of (flat_map (λ (batch : List Request). batch) (take l.batch-index l.batches)) ≡ None;
  can : All (λ (batch : List Request). All CanBeLoaded batch) (take l.batch-index l.batches);
}
