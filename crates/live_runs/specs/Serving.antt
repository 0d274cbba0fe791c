-- Batches of an input that are served while it is read.
use Rattle.std.specs.Prelude.{◌≡◌, ◌≢◌, ◌+◌, ◌≤◌, ℕ, false, Option, Result, List, length, map}
use Rattle.std.specs.Io.KnownBytes.{Consumes}
use Rattle.batch_runs.specs.fault_count.specs.Counts.{HasRisen}
use Rattle.disk_model.specs.Calls.{Seen}
use Rattle.batch_runs.specs.disk_witness.specs.Shown.{Shown}
use Rattle.batch_runs.specs.request_text.specs.declared.request.Request.{Request}
use Rattle.batch_runs.specs.request_text.specs.Grammar.{IsRequestText}
use Rattle.batch_runs.specs.bureau_desk.specs.Desks.{DeskView}
use Rattle.batch_runs.specs.served_lines.specs.declared.answer.Answer.{Answer}
use Rattle.batch_runs.specs.printed_text.specs.declared.exit_status.ExitStatus.{ExitStatus}
use Rattle.batch_runs.specs.printed_text.specs.declared.exit_status.ExitStatus.TheVariants as statuses
use Rattle.live_intake.specs.input_front.specs.Taken.{HasBatches, IntakeView}
use Rattle.live_intake.specs.live_reading.specs.declared.stop.Stop.{Stop}
use Rattle.live_intake.specs.live_reading.specs.declared.stop.Stop.TheVariants as stop
use Rattle.live_intake.specs.live_reading.specs.Fronts.{IsFrontServed, is_fence}
use Rattle.live_intake.specs.Live.{HasRunLive}
use Rattle.batch_runs.specs.declared.tally.Tally.{Tally}
use Rattle.batch_runs.specs.Serving.{HasRunBatches, HasToldBatch}

-- One batch was served while it was read, and counted into a tally. Then the sink and the disk were shown, and then its text was
-- written, or the sink failed at it. The intake stands behind the lines of batches, and took at most one byte more than it may.
pub record HasToldLive {D S T E : Type 0} (seen : D → Seen) (left : S → Option (List ℕ)) (faults : S → ℕ) (old new : DeskView D)
    (source_old source_new : S) (intake_old intake_new : IntakeView) (before after : Tally) (held_old held_new : Option (List ℕ))
    (shown_old shown_new : List (Shown D)) (why : Stop) (written : Result T E) : Type 0 where
  pub answers : Option (List Answer)
  pub live : HasRunLive seen left faults old new source_old source_new intake_old intake_new answers why
  pub told : HasToldBatch seen old new live.batch before after held_old held_new shown_old shown_new written
  pub batches : HasBatches intake_new
  pub held : length intake_new.taken ≤ intake_new.limit + 1

-- The batches of an input were served in turn while it was read, and what each added was written after it was served. That ended
-- where a batch did not end by a FENCE, or where a write failed. Where none failed, and the input has ended, they are all its batches.
pub record HasServedInput {D : Type 0} (seen : D → Seen) (left_old left_new : Option (List ℕ)) (faults_old faults_new : ℕ)
    (old new : DeskView D) (held_old held_new : Option (List ℕ))
    (shown_old shown_new : List (Shown D)) (why : Stop) (status : ExitStatus) : Type 0 where
  pub taken : List ℕ
  pub consumed : Consumes left_old left_new taken
  pub batches : List (List Request)
  pub ran : HasRunBatches seen old new batches held_old held_new shown_old shown_new status
  pub no_more : batches ≡ map (λ b. b.requests) ran.done
  pub front : IsFrontServed left_new taken batches why
  pub ended : status ≢ statuses.Sink → is_fence why ≡ false
  pub all : status ≢ statuses.Sink → why ≡ stop.End → IsRequestText taken batches
  pub failed : why ≡ stop.Failed → HasRisen faults_old faults_new
