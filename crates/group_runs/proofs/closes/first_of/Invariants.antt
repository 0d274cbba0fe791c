use Rattle.std.proofs.Common.{◌≡◌, drop}
use Rattle.group_runs.specs.Lines.{first_close_of}
use Rattle.group_runs.proofs.closes.first_of.Given as goal

abbrev pub invariant-loop-request : goal.invariant-loop-request
invariant-loop-request l = record { none : first_close_of (drop l.request-index l.requests) ≡ first_close_of l.requests }
