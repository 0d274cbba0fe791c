-- What one batch of an input that is still read does.
use Rattle.std.specs.Prelude.{◌≡◌, ◌⊎◌, ◌+◌, ◌<◌, ◌≤◌, ℕ, Bool, true, false, Option, Some, None, List, [], ◌∷◌, ◌++◌, length, take, drop}
use Rattle.std.specs.Io.KnownBytes.{Consumes, IsAtEnd}
use Rattle.lane_runner.specs.fault_count.specs.Counts.{HasRisen}
use Rattle.lane_runner.specs.disk_model.specs.Calls.{Seen}
use Rattle.lane_runner.specs.request_text.specs.declared.request.Request.{Request}
use Rattle.lane_runner.specs.request_text.specs.Grammar.{IsFirstBadLine, IsRequestText}
use Rattle.lane_runner.specs.claim_history.specs.declared.call.PoolEntry.{PoolEntry}
use Rattle.turn_lock.specs.declared.view.View.{View}
use Rattle.lane_runner.specs.bureau_desk.specs.declared.base.DeskBase.{DeskBase}
use Rattle.lane_runner.specs.bureau_desk.specs.Desks.{DeskView}
use Rattle.lane_runner.specs.Seating.{HasServedAll}
use Rattle.lane_runner.specs.served_lines.specs.declared.answer.Answer.{Answer}
use Rattle.lane_runner.specs.Batches.{HasRunBatch}
use Rattle.live_reading.specs.input_front.specs.Front.{IsBatchAt, IsFrontOf}
use Rattle.live_reading.specs.input_front.specs.Taken.{HasNoFeed, HasRead, IntakeView, IsFirstWholeBad}
use Rattle.live_reading.specs.Fronts.{is_fence}
use Rattle.live_reading.specs.Reading.{AreNumbered, Ends, fence_lines}
use Rattle.live_reading.specs.declared.stop.Stop.{Stop}
use Rattle.live_reading.specs.declared.stop.Stop.TheVariants as stop

-- the input ended
abbrev pub is_end : Stop → Bool
is_end stop.End = true
is_end _ = false

-- the bytes whose front is served: those taken, or those before a line for which there was no memory
abbrev pub front_bytes : IntakeView → Stop → List ℕ
front_bytes new stop.Memory = take new.read new.taken
front_bytes new _ = new.taken

module _ (left_new : Option (List ℕ)) (faults_old faults_new : ℕ) (old new : IntakeView) (batch : List Request) where
  -- what is so of the batches before this one
  abbrev pub Behind : (List (List Request) → Type 0) → Type 0
  Behind P = (earlier : List (List Request)) → HasRead old earlier [] → P earlier

  -- with this one they are the front of these bytes
  abbrev pub IsLast : List ℕ → Type 0
  IsLast bytes = Behind (λ earlier. IsFrontOf bytes false (earlier ++ batch ∷ []))

  -- Why the batch ended. A bad line is the first one of the input: whatever follows what was taken, or since the input has ended.
  -- No whole line is left unread where the input ended, where the source failed, and where too much was taken. Where there was no
  -- memory, a whole line that is left is the one that could not be read; where none is, the batch is that of all bytes taken.
  abbrev pub IsStop : Stop → Type 0
  IsStop stop.Fence = Behind (λ earlier. HasRead new (earlier ++ batch ∷ []) [])
  IsStop stop.End = IsAtEnd left_new × (length new.taken ≤ new.limit) × Behind (λ earlier.
      IsRequestText new.taken (earlier ++ batch ∷ []) ⊎ IsRequestText new.taken ((earlier ++ batch ∷ []) ++ [] ∷ []))
      × HasNoFeed (drop new.read new.taken)
  IsStop (stop.BadLine line cause) = IsLast new.taken × IsFirstBadLine new.taken line cause
      × ((IsAtEnd left_new × (length new.taken ≤ new.limit)) ⊎ ((rest : List ℕ) → IsFirstWholeBad (new.taken ++ rest) line cause))
  IsStop stop.Failed =
      IsLast new.taken × HasNoFeed (drop new.read new.taken) × HasRisen faults_old faults_new × (length new.taken ≤ new.limit)
  IsStop stop.TooLong = IsLast new.taken × HasNoFeed (drop new.read new.taken) × (new.limit < length new.taken)
  IsStop stop.Memory = IsLast (take new.read new.taken)
      × (HasNoFeed (drop new.read new.taken) → IsLast new.taken × IsBatchAt new.taken false old.served batch)

-- One batch of the input was served on a desk: the next one of the front. The bytes that were taken are kept. Where there are no
-- answers, the lines of the batch are those that were read, from the next one on.
pub record HasRunLive {D S : Type 0} (seen : D → Seen) (left : S → Option (List ℕ)) (faults : S → ℕ) (old_desk new_desk : DeskView D)
    (source_old source_new : S) (old new : IntakeView) (answers : Option (List Answer)) (why : Stop) : Type 0 where
  pub batch : List Request
  pub ran : HasRunBatch seen old_desk new_desk batch answers
  pub piece : List ℕ
  pub taken : new.taken ≡ old.taken ++ piece
  pub consumed : Consumes (left source_old) (left source_new) piece
  pub limit_is : new.limit ≡ old.limit
  pub served : new.served ≡ old.served + 1
  pub fenced : new.fenced ≡ is_fence why
  pub at : IsBatchAt (front_bytes new why) (is_end why) old.served batch
  pub stops : IsStop (left source_new) (faults source_old) (faults source_new) old new batch why
  pub counted : answers ≡ None → AreNumbered (old.lines + 1) batch × (new.lines ≡ old.lines + length batch + fence_lines why)

-- The lines of a batch were served, where this was known of the desk before: they are read behind those of the batches before.
pub record HasServedLive {D : Type 0} (seen : D → Seen) (known : View PoolEntry (DeskBase D))
    (left_new : Option (List ℕ)) (faults_old faults_new : ℕ)
    (old new : IntakeView) (desk : DeskView D) (answers : List Answer) (why : Stop) : Type 0 where
  pub batch : List Request
  pub all : HasServedAll seen known desk batch answers
  pub ends : Ends left_new faults_old faults_new old new batch (Some why)
