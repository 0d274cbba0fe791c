-- The segments of a batch, and what all lanes have done so far.
use Rattle.std.specs.Prelude.{◌≡◌, ◌+◌, ◌<◌, ℕ, Option, List, ◌++◌, All, length, map, slice_index_or}
use Rattle.setoff_model.specs.declared.limits.TheConstants.{MOST_LANES}
use Rattle.lane_runner.specs.claim_history.specs.declared.call.PoolEntry.{PoolEntry}
use Rattle.turn_lock.specs.declared.turn.Turn.{Turn}
use Rattle.lane_runner.specs.bureau_desk.specs.declared.base.DeskBase.{DeskBase}
use Rattle.lane_runner.specs.bureau_desk.specs.Desks.{DeskView}
use Rattle.lane_runner.specs.request_text.specs.declared.request.Request.{Request}
use Rattle.lane_runner.specs.request_text.specs.Lanes.{IsLane}
use Rattle.lane_runner.specs.served_lines.specs.declared.answer.Answer.{Answer}
use Rattle.lane_runner.specs.served_lines.specs.Served.{lane_lines}
use Rattle.lane_runner.specs.Lanes.{HasServedLines}
use Rattle.live_reading.specs.declared.stop.Stop.{Stop}
use Rattle.live_reading.specs.input_front.specs.Taken.{IntakeView}
use Rattle.live_intake.specs.Joining.{AreJoined}
use Rattle.live_reading.specs.Reading.{Ends}
use Rattle.live_reading.specs.Rings.{Ring}
use Rattle.live_intake.specs.Segments.{IsFitLiveLane, LiveLane}

-- the lanes and their rings, between two segments
pub record AreReady {D : Type 0} (turn : Turn (DeskView D) PoolEntry (DeskBase D))
    (rings : List Ring) (lanes : List (LiveLane D)) : Type 0 where
  pub many : length lanes ≡ MOST_LANES
  pub joined : AreJoined rings lanes
  pub fit : All (IsFitLiveLane turn) lanes

-- These requests were served: they have their answers, and each lane has served just its own lines.
pub record HaveServedAll {D : Type 0} (first now : List (LiveLane D)) (requests : List Request) (answers : List Answer) : Type 0 where
  pub all : length now ≡ length first
  pub own : All (λ r. IsLane r.lane) requests
  pub answered : map (λ answer. answer.line) answers ≡ map (λ request. request.line) requests
  pub each : (k : ℕ) (lane : LiveLane D) → k < length first
      → HasServedLines (slice_index_or first k lane).seat (slice_index_or now k lane).seat (lane_lines (k + 1) requests answers)

-- All segments of a batch were read and served.
pub record HasServedBatch {D : Type 0} (turn : Turn (DeskView D) PoolEntry (DeskBase D))
    (left_new : Option (List ℕ)) (faults_old faults_new : ℕ)
    (old new : IntakeView) (rings : List Ring) (first now : List (LiveLane D)) (answers : List Answer) (why : Option Stop) : Type 0 where
  pub batch : List Request
  pub ready : AreReady turn rings now
  pub served : HaveServedAll first now batch answers
  pub ends : Ends left_new faults_old faults_new old new batch why

-- One segment more was read and served: its requests have their answers behind those that were there.
pub record HasServedMore {D : Type 0} (turn : Turn (DeskView D) PoolEntry (DeskBase D))
    (left_new : Option (List ℕ)) (faults_old faults_new : ℕ)
    (old new : IntakeView) (rings : List Ring) (first now : List (LiveLane D))
    (answers_old answers_new : List Answer) (why : Option Stop) : Type 0 where
  pub requests : List Request
  pub later : List Answer
  pub answers_are : answers_new ≡ answers_old ++ later
  pub ready : AreReady turn rings now
  pub served : HaveServedAll first now requests later
  pub ends : Ends left_new faults_old faults_new old new requests why
