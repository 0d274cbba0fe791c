-- The memory for a batch.
use Rattle.std.specs.Prelude.{◌≡◌, ◌+◌, ◌<◌, ◌≤◌, ℕ, List, [], length, slice_index_or, vec_len, vec_capacity}
use Rattle.live_reading.specs.declared.handed.TheConstants.{MOST_HANDED}
use Rattle.live_reading.specs.declared.reading.TheConstants.{MOST_ASKED}
use Rattle.setoff_model.specs.declared.limits.TheConstants.{MOST_LANES}
use Rattle.rtrb.specs.Ring.{received, sent, known_free, producer_capacity, IsPair}
use Rattle.lane_runner.specs.declared.lane.Place.{Place}
use Rattle.live_reading.specs.Rings.{Ring}
use Rattle.live_intake.specs.declared.room.LiveRoom.{LiveRoom}
use Rattle.live_intake.specs.Segments.{RingEnd}

-- a ring through which nothing went, with its other end and room for what comes of the lines of a segment
pub record IsPlace (ring : Ring) (place : Place RingEnd) : Type 0 where
  pub pair : IsPair ring place.queue
  pub none_sent : sent ring ≡ []
  pub none_received : received place.queue ≡ []
  pub places : producer_capacity ring ≡ MOST_HANDED + 1
  pub free : known_free ring ≡ MOST_HANDED + 1
  pub spare : MOST_HANDED ≤ vec_capacity place.ends

-- such rings, and beside each its place
pub record ArePlaces (rings : List Ring) (places : List (Place RingEnd)) : Type 0 where
  pub same : length places ≡ length rings
  pub each : (k : ℕ) (ring : Ring) (place : Place RingEnd) → k < length rings
      → IsPlace (slice_index_or rings k ring) (slice_index_or places k place)

-- the room for a batch
pub record IsRoom {D : Type 0} (room : LiveRoom D) : Type 0 where
  pub many : length room.places.items ≡ MOST_LANES
  pub places : ArePlaces room.rings.items room.places.items
  pub no_requests : room.requests.items ≡ []
  pub requests : MOST_ASKED ≤ vec_capacity room.requests
  pub no_answers : (room.answers.items ≡ []) × (vec_len room.answers ≡ 0)
  pub no_lanes : room.lanes.items ≡ []
  pub lanes : MOST_LANES ≤ vec_capacity room.lanes
  pub no_seats : room.seats.items ≡ []
  pub seats : MOST_LANES ≤ vec_capacity room.seats
