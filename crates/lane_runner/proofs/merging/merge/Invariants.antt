use Rattle.std.proofs.Common.{◌≡◌, ◌+◌, ◌≤◌, length, vec_len, vec_capacity}
use Rattle.lane_runner.proofs.MergedMore.{IsMerging}
use Rattle.lane_runner.proofs.merging.merge.Given as goal

abbrev pub invariant-loop-request : goal.invariant-loop-request
invariant-loop-request g l = record {
  merging : IsMerging l.requests l.lanes l.request-index l.told l.fn.answers.items l.answers.items;
  len : vec_len l.answers ≡ vec_len l.fn.answers + l.request-index;
  capacity : vec_capacity l.answers ≡ vec_capacity l.fn.answers;
  spare : vec_len l.fn.answers + length l.requests ≤ vec_capacity l.answers;
}
