use Rattle.lane_runner.proofs.Loops.{IsRunning}
use Rattle.lane_runner.proofs.lane_run.run_lane.Given as goal

abbrev pub invariant-loop-request : goal.invariant-loop-request
invariant-loop-request g l = IsRunning l.service.shared.now.turn l.requests l.fn.lane l.request-index l.lane
