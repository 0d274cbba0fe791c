-- What a lane does.
use Rattle.std.specs.Prelude.{◌≡◌, ◌<◌, ℕ, List, length, slice_index_or}
use Rattle.shared_bureau.specs.claim_history.specs.declared.call.PoolEntry.{PoolEntry}
use Rattle.turn_lock.specs.declared.turn.Turn.{Turn}
use Rattle.turn_lock.specs.Seats.{number}
use Rattle.served_lines.specs.request_text.specs.declared.request.Request.{Request}
use Rattle.shared_bureau.specs.bureau_desk.specs.declared.base.DeskBase.{DeskBase}
use Rattle.shared_bureau.specs.bureau_desk.specs.Desks.{DeskView}
use Rattle.shared_bureau.specs.Adding.{IsReady}
use Rattle.lane_runner.specs.declared.lane.Lane.{Lane}
use Rattle.served_lines.specs.Served.{of_lane}
use Rattle.lane_runner.specs.Lanes.{HasRun}

module _ {D Q : Type 0} (turn : Turn (DeskView D) PoolEntry (DeskBase D)) (requests : List Request) where
  -- a lane has served its requests among these
  pub record HasServedLane (old new : Lane D Q) : Type 0 where
    pub run : HasRun old.seat new.seat (of_lane (number old.seat) requests) new.ends.items
    pub ready : IsReady turn new.seat

  -- each lane has
  abbrev pub HaveServed : List (Lane D Q) → List (Lane D Q) → Type 0
  HaveServed old new =
      (length new ≡ length old)
      × ((k : ℕ) (none : Lane D Q) → k < length old → HasServedLane (slice_index_or old k none) (slice_index_or new k none))
