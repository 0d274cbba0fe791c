use Rattle.std.proofs.Common.{◌-◌, length}
use Rattle.live_reading.proofs.Passed.{IsPassing}
use Rattle.live_reading.proofs.passing.pass_over.Given as goal

abbrev pub invariant-loop-intake : goal.invariant-loop-intake
invariant-loop-intake l = record {
  passing : IsPassing l.fn.intake l.intake;
}

abbrev pub decreases-loop-intake : goal.decreases-loop-intake
decreases-loop-intake l = length l.intake.taken - l.intake.read
