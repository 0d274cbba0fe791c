-- Between segments, and what a segment does.
use Rattle.std.specs.Prelude.{◌≡◌, ◌+◌, ◌<◌, ◌≤◌, ℕ, List, length, slice_index_or, vec_capacity}
use Rattle.live_reading.specs.declared.handed.TheConstants.{MOST_HANDED}
use Rattle.rtrb.specs.Ring.{received, sent, known_free, producer_capacity, IsPair}
use Rattle.lane_runner.specs.claim_history.specs.declared.call.PoolEntry.{PoolEntry}
use Rattle.turn_lock.specs.declared.turn.Turn.{Turn}
use Rattle.turn_lock.specs.Seats.{number}
use Rattle.lane_runner.specs.bureau_desk.specs.declared.base.DeskBase.{DeskBase}
use Rattle.lane_runner.specs.bureau_desk.specs.Desks.{DeskView}
use Rattle.lane_runner.specs.shared_bureau.specs.Adding.{IsReady}
use Rattle.lane_runner.specs.request_text.specs.declared.request.Request.{Request}
use Rattle.lane_runner.specs.served_lines.specs.Served.{of_lane}
use Rattle.lane_runner.specs.Lanes.{HasRun}
use Rattle.live_intake.specs.Segments.{LiveLane}
use Rattle.live_reading.specs.Handing.{IsMarked}
use Rattle.live_reading.specs.Rings.{Ring}

-- Between segments: all that was sent was received, the mark was the last of it, and the whole ring is known to be free. The lane has
-- its number.
pub record IsJoined {D : Type 0} (k : ℕ) (ring : Ring) (lane : LiveLane D) : Type 0 where
  pub pair : IsPair ring lane.queue
  pub all : received lane.queue ≡ sent ring
  pub marked : IsMarked (sent ring)
  pub places : producer_capacity ring ≡ MOST_HANDED + 1
  pub free : known_free ring ≡ MOST_HANDED + 1
  pub number_is : number lane.seat ≡ k + 1

pub record AreJoined {D : Type 0} (rings : List Ring) (lanes : List (LiveLane D)) : Type 0 where
  pub same : length lanes ≡ length rings
  pub each : (k : ℕ) (ring : Ring) (lane : LiveLane D) → k < length rings
      → IsJoined k (slice_index_or rings k ring) (slice_index_or lanes k lane)

module _ {D : Type 0} (turn : Turn (DeskView D) PoolEntry (DeskBase D)) where
  -- a lane served these requests
  pub record HasServedThese (requests : List Request) (old new : LiveLane D) : Type 0 where
    pub run : HasRun old.seat new.seat requests new.ends.items
    pub ready : IsReady turn new.seat
    pub spare : MOST_HANDED ≤ vec_capacity new.ends

  -- each lane served just its own
  pub record HaveServedThese (requests : List Request) (old new : List (LiveLane D)) : Type 0 where
    pub all : length new ≡ length old
    pub each : (k : ℕ) (lane : LiveLane D) → k < length old
        → HasServedThese (of_lane (k + 1) requests) (slice_index_or old k lane) (slice_index_or new k lane)
