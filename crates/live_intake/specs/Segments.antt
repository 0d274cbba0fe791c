-- What one lane does in a segment.
use Rattle.std.specs.Prelude.{◌≡◌, ◌<◌, ◌≤◌, ℕ, List, ◌++◌, All, length, slice_index_or, vec_capacity}
use Rattle.std.specs.declared.alloc.Global.{Global}
use Rattle.live_reading.specs.declared.handed.Handed.{Handed}
use Rattle.live_reading.specs.declared.handed.InSegments.{InSegments}
use Rattle.live_reading.specs.declared.handed.TheConstants.{MOST_HANDED}
use Rattle.rtrb.specs.declared.consumer.Consumer.{Consumer}
use Rattle.rtrb.specs.Ring.{received, SameConsumer}
use Rattle.lane_runner.specs.claim_history.specs.declared.call.PoolEntry.{PoolEntry}
use Rattle.turn_lock.specs.declared.turn.Turn.{Turn}
use Rattle.turn_lock.specs.Seats.{number}
use Rattle.lane_runner.specs.bureau_desk.specs.declared.base.DeskBase.{DeskBase}
use Rattle.lane_runner.specs.bureau_desk.specs.Desks.{DeskView}
use Rattle.lane_runner.specs.shared_bureau.specs.Adding.{IsReady}
use Rattle.lane_runner.specs.request_text.specs.declared.request.Request.{Request}
use Rattle.lane_runner.specs.declared.lane.Lane.{Lane}
use Rattle.lane_runner.specs.Lanes.{HasRun}
use Rattle.live_reading.specs.Handing.{IsMarked, segment_of}

-- the end of a ring by which a lane is handed its lines, and such a lane
abbrev pub RingEnd : Type 0
RingEnd = Consumer Handed Global InSegments

abbrev pub LiveLane : Type 0 → Type 0
LiveLane D = Lane D RingEnd

module _ {D : Type 0} (turn : Turn (DeskView D) PoolEntry (DeskBase D)) where
  -- a lane of this lock at the beginning of a segment, with room for what comes of its lines
  pub record IsFitLiveLane (lane : LiveLane D) : Type 0 where
    pub ready : IsReady turn lane.seat
    pub marked : IsMarked (received lane.queue)
    pub spare : MOST_HANDED ≤ vec_capacity lane.ends

  -- It took requests of its own from its ring, up to the mark, and served them.
  pub record HasServedSegment (old new : LiveLane D) : Type 0 where
    pub requests : List Request
    pub own : All (λ r. r.lane ≡ number old.seat) requests
    pub taken : received new.queue ≡ received old.queue ++ segment_of requests
    pub run : HasRun old.seat new.seat requests new.ends.items
    pub ready : IsReady turn new.seat
    pub same : SameConsumer old.queue new.queue
    pub spare : MOST_HANDED ≤ vec_capacity new.ends

  -- each lane did
  abbrev pub HaveServedSegment : List (LiveLane D) → List (LiveLane D) → Type 0
  HaveServedSegment old new = (length new ≡ length old)
      × ((k : ℕ) (none : LiveLane D) → k < length old → HasServedSegment (slice_index_or old k none) (slice_index_or new k none))
