use Rattle.std.proofs.Common.{◌≡◌, length, take}
use Rattle.setoff_model.specs.declared.limits.TheConstants.{MOST_LANES}
use Rattle.lane_runner.specs.Rooms.{AreCounts}
use Rattle.lane_runner.proofs.batch_room.counts.Given as goal

abbrev pub invariant-loop-request : goal.invariant-loop-request
invariant-loop-request l = record {
  many : length l.counts ≡ MOST_LANES;
  counted : AreCounts (take l.request-index l.requests) l.counts;
}
