use Rattle.std.proofs.Common.{length, ◌-◌, ◌≤◌}
use Rattle.disk_model.proofs.system_file.write_whole.Given as goal

abbrev pub invariant-loop-done : goal.invariant-loop-done
invariant-loop-done l = l.done ≤ length l.piece

abbrev pub decreases-loop-done : goal.decreases-loop-done
decreases-loop-done l = length l.piece - l.done
