use Rattle.std.proofs.Common.{◌∙◌, ap}
use Rattle.live_intake.specs.live_reading.specs.Fronts.{is_fence}
use Rattle.lane_tests.proofs.live.served.Goals as goal

pub returns : goal.returns
returns g c = λ is. c.run_live-end.ensures.ran.fenced ∙ ap is_fence is
