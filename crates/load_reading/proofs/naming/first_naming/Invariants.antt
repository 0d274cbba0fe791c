use Rattle.std.proofs.Common.{◌+◌, ◌≤◌, length}
use Rattle.load_reading.proofs.Closes.{PassesNone}
use Rattle.load_reading.proofs.naming.first_naming.Given as goal

abbrev pub invariant-loop-line : goal.invariant-loop-line
invariant-loop-line l = record {
  passed : PassesNone l.input l.rest l.number;
  counted : l.number + length l.rest ≤ length l.input + 1;
}

abbrev pub decreases-loop-line : goal.decreases-loop-line
decreases-loop-line l = length l.rest
