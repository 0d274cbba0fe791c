use Rattle.std.proofs.Common.{◌-◌, ◌≤◌, length, vec_capacity}
use Rattle.setoff_model.specs.declared.limits.TheConstants.{MOST_LANES}
use Rattle.live_intake.specs.Rooms.{ArePlaces}
use Rattle.live_intake.proofs.room.rings_and_places.Given as goal

abbrev pub invariant-loop-alloc : goal.invariant-loop-alloc
invariant-loop-alloc l = record {
  each : ArePlaces l.rings.items l.places.items;
  few : length l.places.items ≤ MOST_LANES;
  rings_spare : MOST_LANES ≤ vec_capacity l.rings;
  spare : MOST_LANES ≤ vec_capacity l.places;
}

abbrev pub decreases-loop-alloc : goal.decreases-loop-alloc
decreases-loop-alloc l = MOST_LANES - length l.places.items
