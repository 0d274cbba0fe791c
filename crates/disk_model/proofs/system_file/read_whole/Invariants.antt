use Rattle.std.proofs.Common.{length, ◌-◌, ◌≤◌}
use Rattle.disk_model.proofs.system_file.read_whole.Given as goal

abbrev pub invariant-loop-done : goal.invariant-loop-done
invariant-loop-done l = l.done ≤ length l.initial.into

abbrev pub decreases-loop-done : goal.decreases-loop-done
decreases-loop-done l = length l.initial.into - l.done
