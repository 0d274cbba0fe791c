-- Which batches of an input were served, by why the last of them ended.
use Rattle.std.specs.Prelude.{◌≡◌, ◌⊎◌, ◌+◌, ◌≤◌, ℕ, Bool, true, false, Option, List, [], ◌∷◌, ◌++◌, drop, length, take}
use Rattle.std.specs.Io.KnownBytes.{IsAtEnd}
use Rattle.setoff_model.specs.declared.limits.TheConstants.{MOST_INPUT_BYTES}
use Rattle.served_lines.specs.request_text.specs.declared.error.LineCause.{LineCause}
use Rattle.served_lines.specs.request_text.specs.declared.request.Request.{Request}
use Rattle.served_lines.specs.request_text.specs.Grammar.{AreBatches, IsFirstBadLine, IsRequestText}
use Rattle.input_front.specs.Front.{IsFrontOf, whole_lines}
use Rattle.input_front.specs.Taken.{HasNoFeed, IsFirstWholeBad, IsWhole}
use Rattle.live_reading.specs.declared.stop.Stop.{Stop}
use Rattle.live_reading.specs.declared.stop.Stop.TheVariants as stop

-- a line FENCE with its line feed ended the batch
abbrev pub is_fence : Stop → Bool
is_fence stop.Fence = true
is_fence _ = false

-- the first lines of the bytes are those of these batches, each up to its FENCE
pub record BeginsWith (bytes : List ℕ) (batches : List (List Request)) : Type 0 where
  pub read : ℕ
  pub before : List (List ℕ)
  pub whole : IsWhole (take read bytes) before
  pub spelled : AreBatches 1 before (batches ++ [] ∷ [])

-- the input has ended, and was taken whole
abbrev pub IsTakenWhole : Option (List ℕ) → List ℕ → Type 0
IsTakenWhole left taken = IsAtEnd left × (length taken ≤ MOST_INPUT_BYTES)

-- that line is the first one of the input that is not in the grammar: since the input has ended; or it has its line feed, whatever
-- follows what was taken, which is at most one byte more than the limit
abbrev pub IsBadLineOf : Option (List ℕ) → List ℕ → ℕ → LineCause → Type 0
IsBadLineOf left taken line cause = IsFirstBadLine taken line cause
    × (IsTakenWhole left taken
    ⊎ ((length taken ≤ MOST_INPUT_BYTES + 1) × ((rest : List ℕ) → IsFirstWholeBad (taken ++ rest) line cause)))

-- These batches were served of the bytes that were taken. At the end of the input they are all, or all but an empty one behind a
-- FENCE without a line feed. Where the source failed, and where it had a byte more than may be taken, each whole line that was taken
-- is one of theirs. Where there was no memory for a line, they are those of the lines before it; where no whole line is left unread,
-- those of all bytes that were taken.
abbrev pub IsFrontServed : Option (List ℕ) → List ℕ → List (List Request) → Stop → Type 0
IsFrontServed left taken batches stop.Fence = BeginsWith taken batches
IsFrontServed left taken batches stop.End =
    IsTakenWhole left taken × (IsRequestText taken batches ⊎ IsRequestText taken (batches ++ [] ∷ []))
IsFrontServed left taken batches (stop.BadLine line cause) = IsFrontOf taken false batches × IsBadLineOf left taken line cause
IsFrontServed left taken batches stop.Failed = AreBatches 1 (whole_lines taken) batches × (length taken ≤ MOST_INPUT_BYTES)
IsFrontServed left taken batches stop.TooLong = AreBatches 1 (whole_lines taken) batches × (length taken ≡ MOST_INPUT_BYTES + 1)
IsFrontServed left taken batches stop.Memory =
    (read : ℕ) × IsFrontOf (take read taken) false batches × (HasNoFeed (drop read taken) → IsFrontOf taken false batches)
