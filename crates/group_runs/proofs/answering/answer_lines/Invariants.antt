use Rattle.std.proofs.Common.{◌≡◌, ◌≤◌, take, vec_len, vec_capacity}
use Rattle.group_runs.specs.Runs.{HasAnswered}
use Rattle.group_runs.proofs.answering.answer_lines.Given as goal

abbrev pub invariant-loop-request : goal.invariant-loop-request
invariant-loop-request g l = record {
  answered : HasAnswered l.fn.loader l.loader (take l.request-index l.requests) l.answers.items;
  len : vec_len l.answers ≡ l.request-index;
  room : vec_capacity l.fn.answers ≤ vec_capacity l.answers;
}
