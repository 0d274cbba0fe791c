-- What was taken of an input, and how far it was read.
use Rattle.std.specs.Prelude.{◌≡◌, ◌+◌, ◌-◌, ◌<◌, ◌≤◌, ℕ, Bool, true, false, Option, Some}
use Rattle.std.specs.Prelude.{None, List, [], ◌∷◌, ◌++◌, length, take, drop, All, MatchBool}
use Rattle.input_front.specs.declared.intake.TheConstants.{PIECE}
use Rattle.setoff_model.specs.declared.limits.TheConstants.{MOST_INPUT_BYTES}
use Rattle.std.specs.Io.KnownBytes.{Consumes, IsAtEnd, Keeps}
use Rattle.std.specs.Str.Lines.{lines}
use Rattle.request_text.specs.fault_count.specs.Counts.{HasRisen}
use Rattle.request_text.specs.declared.error.LineCause.{LineCause}
use Rattle.request_text.specs.declared.request.Request.{Request}
use Rattle.request_text.specs.Grammar.{AreBatches, CanBeAsked, IsFirstBadLine, IsRequestText}
use Rattle.input_front.specs.declared.intake.More.{More}
use Rattle.input_front.specs.declared.intake.More.TheVariants as more
use Rattle.input_front.specs.declared.line.Line.{Line}
use Rattle.input_front.specs.declared.line.Line.TheVariants as line
use Rattle.input_front.specs.Front.{IsBatchAt, IsFrontOf, is_feed, whole_lines}

-- the most bytes that are taken, those taken, how many of them and how many lines were read, how many batches have begun, and whether
-- the last of these ended with a fence
pub record IntakeView : Type 0 where
  pub limit : ℕ
  pub taken : List ℕ
  pub read : ℕ
  pub lines : ℕ
  pub served : ℕ
  pub fenced : Bool

abbrev pub HasNoFeed : List ℕ → Type 0
HasNoFeed bytes = All (λ b. is_feed b ≡ false) bytes

-- the text is these lines, each with its line feed, whatever follows
pub record IsWhole (text : List ℕ) (found : List (List ℕ)) : Type 0 where
  pub as_lines : (rest : List ℕ) → lines (text ++ rest) ≡ found ++ lines rest
  pub as_whole : (rest : List ℕ) → whole_lines (text ++ rest) ≡ found ++ whole_lines rest

-- so many bytes are the first line, with its line feed
pub record IsEnded (bytes : List ℕ) (n : ℕ) : Type 0 where
  pub within : n ≤ length bytes
  pub some : 1 ≤ n
  pub line : List ℕ
  pub none : HasNoFeed line
  pub is : take n bytes ≡ line ++ 10 ∷ []

-- the lines that were read are those of these batches, the last of which has no fence behind it
pub record HasRead (v : IntakeView) (ended : List (List Request)) (batch : List Request) : Type 0 where
  pub before : List (List ℕ)
  pub whole : IsWhole (take v.read v.taken) before
  pub spelled : AreBatches 1 before (ended ++ batch ∷ [])
  pub counted : v.lines ≡ length before

-- what is so whatever batches were read
abbrev pub OfRead : IntakeView → (List (List Request) → List Request → Type 0) → Type 0
OfRead v P = (ended : List (List Request)) (batch : List Request) → HasRead v ended batch → P ended batch

-- the same batches were read
abbrev pub KeepsRead : IntakeView → IntakeView → Type 0
KeepsRead old new = OfRead old (λ ended batch. HasRead new ended batch)

-- The lines that were read are those of batches. Where none has begun since the last fence, they are those served so far, and of the
-- next nothing was read; else the last one is the last of them.
pub record HasBatches (v : IntakeView) : Type 0 where
  pub ended : List (List Request)
  pub batch : List Request
  pub read : HasRead v ended batch
  pub places : MatchBool v.fenced ((batch ≡ []) × (v.served ≡ length ended)) (v.served ≡ length ended + 1)

-- the front of the bytes that were read has just the batches that were read
abbrev pub IsFrontRead : IntakeView → Type 0
IsFrontRead v = OfRead v (λ ended batch. IsFrontOf (take v.read v.taken) false (ended ++ batch ∷ []))

-- so has that of all bytes that were taken
abbrev pub IsFrontTaken : IntakeView → Type 0
IsFrontTaken v = OfRead v (λ ended batch. IsFrontOf v.taken false (ended ++ batch ∷ []))

-- no whole line is left
pub record HasNoLine (v : IntakeView) : Type 0 where
  pub none : HasNoFeed (drop v.read v.taken)
  pub front : IsFrontTaken v

-- what is asked can be asked, on this line
pub record IsAsked (number : ℕ) (request : Request) : Type 0 where
  pub number_is : request.line ≡ number
  pub can : CanBeAsked (record { lane = request.lane; pool = request.pool; act = request.act })

-- the next line is not in the grammar, and is the first such line
abbrev pub IsFirstBad : IntakeView → ℕ → LineCause → Type 0
IsFirstBad v number cause = OfRead v (λ ended batch. IsFirstBadLine v.taken number cause) × IsFrontTaken v

-- the first line of the bytes that is not in the grammar has its line feed
pub record IsFirstWholeBad (bytes : List ℕ) (number : ℕ) (cause : LineCause) : Type 0 where
  pub first : IsFirstBadLine bytes number cause
  pub later : List (List ℕ)
  pub whole : whole_lines bytes ≡ first.before ++ first.line ∷ later

-- that line has its line feed, and stays the first bad one, whatever follows the bytes that were taken
abbrev pub StaysBad : IntakeView → ℕ → LineCause → Type 0
StaysBad v number cause = (rest : List ℕ) → OfRead v (λ ended batch. IsFirstWholeBad (v.taken ++ rest) number cause)

-- a line was read which asks this of the batch
pub record HasAsked (old new : IntakeView) (request : Request) : Type 0 where
  pub later : old.read < new.read
  pub same : new ≡ record old { read = new.read; lines = old.lines + 1 }
  pub asked : IsAsked (old.lines + 1) request
  pub reads : OfRead old (λ ended batch. HasRead new ended (batch ++ request ∷ []))

-- a line was read which ends the batch
pub record HasFenced (old new : IntakeView) : Type 0 where
  pub later : old.read < new.read
  pub same : new ≡ record old { read = new.read; lines = old.lines + 1; fenced = true }
  pub reads : OfRead old (λ ended batch. HasRead new (ended ++ batch ∷ []) [])
  pub at : OfRead old (λ ended batch. IsBatchAt new.taken false (length ended) batch)

-- what the next line said; it was read where it is in the grammar
abbrev pub HasNext : IntakeView → IntakeView → Line → Type 0
HasNext old new (line.Asks request) = HasAsked old new request
HasNext old new line.Fence = HasFenced old new
HasNext old new (line.Bad number cause) = (new ≡ old) × IsFirstBad old number cause × StaysBad old number cause
HasNext old new line.Memory = (new ≡ old) × IsFrontRead old

-- what the rest of an input that has ended says, which has no line feed: it is the last line, where it is one
abbrev pub HasLast : IntakeView → Option Line → Type 0
HasLast v None = (drop v.read v.taken ≡ []) × OfRead v (λ ended batch. IsRequestText v.taken (ended ++ batch ∷ []))
HasLast v (Some (line.Asks request)) =
    IsAsked (v.lines + 1) request × OfRead v (λ ended batch. IsRequestText v.taken (ended ++ (batch ++ request ∷ []) ∷ []))
HasLast v (Some line.Fence) =
    OfRead v (λ ended batch. IsRequestText v.taken ((ended ++ batch ∷ []) ++ [] ∷ []) × IsBatchAt v.taken true (length ended) batch)
HasLast v (Some (line.Bad number cause)) = IsFirstBad v number cause
HasLast v (Some line.Memory) = IsFrontRead v

-- some bytes more were taken
pub record HasPiece (left_old left_new : Option (List ℕ)) (old new : IntakeView) : Type 0 where
  pub piece : List ℕ
  pub same : new ≡ record old { taken = old.taken ++ piece }
  pub consumed : Consumes left_old left_new piece
  pub some : 1 ≤ length piece
  pub few : length piece ≤ PIECE
  pub within : length new.taken ≤ old.limit + 1
  pub reads : KeepsRead old new

-- what came of asking a source for more; nothing else was taken
abbrev pub HasCome : {S : Type 0} → (S → Option (List ℕ)) → S → S → IntakeView → IntakeView → More → Type 0
HasCome left source_old source_new old new more.Some = HasPiece (left source_old) (left source_new) old new
HasCome left source_old source_new old new more.End =
    (new ≡ old) × Consumes (left source_old) (left source_new) [] × IsAtEnd (left source_new) × (length old.taken ≤ old.limit)
HasCome left source_old source_new old new more.Failed =
    (new ≡ old) × Keeps (left source_old) (left source_new) × (length old.taken ≤ old.limit)
HasCome left source_old source_new old new more.TooLong = (new ≡ old) × (source_new ≡ source_old) × (old.limit < length old.taken)
HasCome left source_old source_new old new more.Memory = (new ≡ old) × (source_new ≡ source_old)

-- the count of faults does not fall, and has risen where the source failed
abbrev pub HasFailed : {S : Type 0} → (S → ℕ) → S → S → More → Type 0
HasFailed faults source_old source_new answer =
    (faults source_old ≤ faults source_new) × (answer ≡ more.Failed → HasRisen (faults source_old) (faults source_new))

-- What an intake keeps: no line feed stands between what was read and a place, before which none has to be sought again.
pub record IsIntake (v : IntakeView) (sought : ℕ) : Type 0 where
  pub limited : v.limit ≤ MOST_INPUT_BYTES
  pub behind : v.read ≤ sought
  pub within : sought ≤ length v.taken
  pub held : length v.taken ≤ v.limit + 1
  pub numbered : v.lines ≤ v.read
  pub few : v.served ≤ v.lines + 1
  pub fewer : v.fenced ≡ true → v.served ≤ v.lines
  pub none : HasNoFeed (take (sought - v.read) (drop v.read v.taken))
  pub batches : HasBatches v
