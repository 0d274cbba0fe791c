-- The reader of a segment.
use Rattle.std.specs.Prelude.{◌≡◌, ◌≤◌, ℕ, false, Option, List, [], All, length, Vec, vec_len, vec_capacity}
use Rattle.live_reading.specs.declared.reading.TheConstants.{MOST_ASKED}
use Rattle.std.specs.declared.alloc.Global.{Global}
use Rattle.setoff_model.specs.declared.limits.TheConstants.{MOST_LANES}
use Rattle.served_lines.specs.request_text.specs.declared.request.Request.{Request}
use Rattle.served_lines.specs.request_text.specs.Lanes.{IsLane}
use Rattle.served_lines.specs.declared.answer.Answer.{Answer}
use Rattle.input_front.specs.Taken.{IntakeView}
use Rattle.live_reading.specs.declared.stop.Stop.{Stop}
use Rattle.live_reading.specs.Reading.{Ends, HasTakenPiece}
use Rattle.live_reading.specs.Rings.{AreOpen, HaveHanded, Ring}
use Rattle.live_reading.specs.Sparing.{HasSpare, KeepsSpare}

-- A batch has begun, each lane may be handed lines, and no line of the segment is noted; there is room for them and for their answers.
abbrev pub MayRead : IntakeView → List Ring → Vec Request Global → Vec Answer Global → Type 0
MayRead intake rings requests answers = (intake.fenced ≡ false)
    × (length rings ≡ MOST_LANES)
    × AreOpen rings
    × (requests.items ≡ [])
    × (vec_len requests ≡ 0)
    × (MOST_ASKED ≤ vec_capacity requests)
    × HasSpare intake answers (vec_len requests)

-- The lines of the segment were read, and each lane was handed its own of them, and the mark.
pub record HasReadSegment (left_old left_new : Option (List ℕ)) (faults_old faults_new : ℕ) (old new : IntakeView)
    (rings_old rings_new : List Ring) (requests : Vec Request Global)
    (answers_old answers_new : Vec Answer Global) (why : Option Stop) : Type 0 where
  pub handed : HaveHanded rings_old rings_new requests.items
  pub own : All (λ r. IsLane r.lane) requests.items
  pub few : vec_len requests ≤ MOST_ASKED
  pub spare : MOST_ASKED ≤ vec_capacity requests
  pub taken : HasTakenPiece left_old left_new faults_old faults_new old new
  pub ends : Ends left_new faults_old faults_new old new requests.items why
  pub answers : KeepsSpare old new answers_old answers_new (vec_len requests) why
