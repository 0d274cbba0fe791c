-- What the reader of a segment reads, and hands to the lanes.
use Rattle.std.specs.Prelude.{◌≡◌, ◌⊎◌, ◌+◌, ◌<◌, ◌≤◌, ℕ, true, false, Option, Some, None, List}
use Rattle.std.specs.Prelude.{[], ◌∷◌, ◌++◌, All, length, take, drop, map, slice_index_or}
use Rattle.live_reading.specs.declared.reading.TheConstants.{MOST_ASKED}
use Rattle.std.specs.Io.KnownBytes.{Consumes, IsAtEnd}
use Rattle.served_lines.specs.fault_count.specs.Counts.{HasRisen}
use Rattle.rtrb.specs.Ring.{sent, SameProducer}
use Rattle.served_lines.specs.request_text.specs.declared.error.LineCause.{LineCause}
use Rattle.served_lines.specs.request_text.specs.declared.request.Request.{Request}
use Rattle.served_lines.specs.request_text.specs.Grammar.{IsFirstBadLine, IsRequestText}
use Rattle.served_lines.specs.request_text.specs.Lanes.{IsLane}
use Rattle.served_lines.specs.Served.{of_lane}
use Rattle.input_front.specs.Front.{IsBatchAt, IsFrontOf}
use Rattle.input_front.specs.Taken.{HasNoFeed, HasRead, IntakeView, IsFirstWholeBad, OfRead}
use Rattle.live_reading.specs.declared.reading.Step.{Step}
use Rattle.live_reading.specs.declared.reading.Step.TheVariants as step
use Rattle.live_reading.specs.declared.stop.Stop.{Stop}
use Rattle.live_reading.specs.declared.stop.Stop.TheVariants as stop
use Rattle.live_reading.specs.Handing.{handed_of}
use Rattle.live_reading.specs.Rings.{IsOpen, Ring}

-- one lane was handed these
pub record HasSentAll (old new : Ring) (requests : List Request) : Type 0 where
  pub same : SameProducer old new
  pub sent_is : sent new ≡ sent old ++ map handed_of requests

-- each lane was handed its own of these requests, in order
pub record HaveSentAll (old new : List Ring) (requests : List Request) : Type 0 where
  pub all : length new ≡ length old
  pub each : (k : ℕ) (ring : Ring) → k < length old
      → HasSentAll (slice_index_or old k ring) (slice_index_or new k ring) (of_lane (k + 1) requests)

-- the lines that were read are the old ones and these requests, which are of the last batch
abbrev pub HasReadThese : IntakeView → IntakeView → List Request → Type 0
HasReadThese old new requests = OfRead old (λ ended batch. HasRead new ended (batch ++ requests))

-- Bytes of the source were taken, and its count of faults did not fall.
pub record HasTakenPiece (left_old left_new : Option (List ℕ)) (faults_old faults_new : ℕ) (old new : IntakeView) : Type 0 where
  pub piece : List ℕ
  pub taken : new.taken ≡ old.taken ++ piece
  pub consumed : Consumes left_old left_new piece
  pub limit_is : new.limit ≡ old.limit
  pub served_is : new.served ≡ old.served
  pub later : faults_old ≤ faults_new

-- the batches, the last of which is this one, are the front of these bytes
abbrev pub HasFront : IntakeView → List ℕ → List Request → Type 0
HasFront old bytes requests = OfRead old (λ ended batch. IsFrontOf bytes false (ended ++ (batch ++ requests) ∷ []))

-- A bad line is the first one of the input: since the input has ended; or it has its line feed, whatever follows what was taken.
abbrev pub IsBadForGood : Option (List ℕ) → IntakeView → IntakeView → ℕ → LineCause → Type 0
IsBadForGood left_new old new line cause = (IsAtEnd left_new × (length new.taken ≤ new.limit))
    ⊎ ((rest : List ℕ) → OfRead old (λ ended batch. IsFirstWholeBad (new.taken ++ rest) line cause))

-- requests on the lines from this number on, one on each
abbrev pub AreNumbered : ℕ → List Request → Type 0
AreNumbered first [] = Unit {0}
AreNumbered first (r ∷ rs) = (r.line ≡ first) × AreNumbered (first + 1) rs

-- the line that ended the batch, where one was read
abbrev pub fence_lines : Stop → ℕ
fence_lines stop.Fence = 1
fence_lines _ = 0

module _ (left_new : Option (List ℕ)) (faults_old faults_new : ℕ) (old new : IntakeView) (requests : List Request) where
  -- a FENCE was read behind them
  abbrev pub HasReadFence : Type 0
  HasReadFence = OfRead old (λ ended batch.
      HasRead new (ended ++ (batch ++ requests) ∷ []) [] × IsBatchAt new.taken false (length ended) (batch ++ requests))

  -- the input has ended: its last batch is this one, or an empty one behind a FENCE without a line feed
  abbrev pub HasReadToEnd : Type 0
  HasReadToEnd = OfRead old (λ ended batch.
      (IsRequestText new.taken (ended ++ (batch ++ requests) ∷ [])
      ⊎ IsRequestText new.taken ((ended ++ (batch ++ requests) ∷ []) ++ [] ∷ []))
      × IsBatchAt new.taken true (length ended) (batch ++ requests))

  -- Why the reading ended, by what was read; None: the batch goes on.
  abbrev pub Ends : Option Stop → Type 0
  Ends None = (new.fenced ≡ false) × HasReadThese old new requests
  Ends (Some stop.Fence) = (new.fenced ≡ true) × HasReadFence
  Ends (Some stop.End) =
      (new.fenced ≡ false) × HasReadToEnd × IsAtEnd left_new × (length new.taken ≤ new.limit) × HasNoFeed (drop new.read new.taken)
  Ends (Some (stop.BadLine line cause)) =
      (new.fenced ≡ false) × HasFront old new.taken requests × OfRead old (λ ended batch. IsFirstBadLine new.taken line cause)
      × IsBadForGood left_new old new line cause
  Ends (Some stop.Failed) =
      (new.fenced ≡ false) × HasFront old new.taken requests × HasNoFeed (drop new.read new.taken) × HasRisen faults_old faults_new
      × (length new.taken ≤ new.limit)
  Ends (Some stop.TooLong) =
      (new.fenced ≡ false) × HasFront old new.taken requests × HasNoFeed (drop new.read new.taken) × (new.limit < length new.taken)
  Ends (Some stop.Memory) =
      (new.fenced ≡ false) × HasFront old (take new.read new.taken) requests
      × (HasNoFeed (drop new.read new.taken) → HasFront old new.taken requests)

-- More lines were read, and each lane was handed its own of them. They are noted behind those that were.
pub record HasGoneOn (left_old left_new : Option (List ℕ)) (faults_old faults_new : ℕ) (old new : IntakeView)
    (rings_old rings_new : List Ring) (noted_old noted_new : List Request) (why : Option Stop) : Type 0 where
  pub more : List Request
  pub noted : noted_new ≡ noted_old ++ more
  pub sent : HaveSentAll rings_old rings_new more
  pub own : All (λ r. IsLane r.lane) more
  pub taken : HasTakenPiece left_old left_new faults_old faults_new old new
  pub ends : Ends left_new faults_old faults_new old new more why

-- The rest of an input that has ended was read, as its last line.
pub record HasReadLast (v : IntakeView) (rings_old rings_new : List Ring) (noted_old noted_new : List Request) (why : Stop) : Type 0 where
  pub more : List Request
  pub noted : noted_new ≡ noted_old ++ more
  pub sent : HaveSentAll rings_old rings_new more
  pub own : All (λ r. IsLane r.lane) more
  pub ends : (left : Option (List ℕ)) (before now : ℕ) → IsAtEnd left → length v.taken ≤ v.limit
      → Ends left before now v v more (Some why)

-- The whole lines that had been taken were read, up to the end of the batch, and nothing more was taken. Each line is one request of
-- the batch, but for the one that ended it.
pub record HasPassed (old new : IntakeView) (why : Stop) : Type 0 where
  pub batch : List Request
  pub numbered : AreNumbered (old.lines + 1) batch
  pub lines_are : new.lines ≡ old.lines + length batch + fence_lines why
  pub taken : (left : Option (List ℕ)) (faults : ℕ) → HasTakenPiece left left faults faults old new
  pub ends : (left : Option (List ℕ)) (faults : ℕ) → Ends left faults faults old new batch (Some why)

-- why a step of the reader was the last one, if it was
abbrev pub end_of : Step → Option Stop
end_of step.On = None
end_of step.Full = None
end_of (step.Over why) = Some why

-- where the segment goes on, each lane may be handed more, and so may be noted
abbrev pub MayGoOn : Step → List Ring → ℕ → Type 0
MayGoOn step.On rings noted = All IsOpen rings × (noted < MOST_ASKED)
MayGoOn step.Full rings noted = Unit {0}
MayGoOn (step.Over why) rings noted = Unit {0}
