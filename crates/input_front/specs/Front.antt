-- The front of an input: the batches of its lines before the first that is not in the grammar.
use Rattle.std.specs.Prelude.{◌≡◌, ℕ, Bool, true, List, [], ◌∷◌, ◌++◌, length, if◌then◌else◌}
use Rattle.std.specs.List.{slice_split}
use Rattle.std.specs.Str.Lines.{lines, strip_carriage_return}
use Rattle.std.proofs.Common.{eqb}
use Rattle.request_text.specs.claim_history.specs.declared.act.Act.{Act}
use Rattle.request_text.specs.declared.request.Request.{Request}
use Rattle.request_text.specs.Lanes.{fence}
use Rattle.request_text.specs.Causes.{IsBadLine}
use Rattle.request_text.specs.Grammar.{AreBatches, IsLine, IsRequestText}
use Rattle.input_front.specs.declared.line.Line.{Line}
use Rattle.input_front.specs.declared.line.Line.TheVariants as line

-- what a line of this number says
abbrev pub Says : ℕ → List ℕ → Line → Type 0
Says number text (line.Asks request) = (request.line ≡ number) × IsLine text request.lane request.pool request.act
Says number text line.Fence = text ≡ fence
Says number text (line.Bad n cause) = (n ≡ number) × IsBadLine text cause
Says number text line.Memory = Unit {0}

-- a line feed
abbrev pub is_feed : ℕ → Bool
is_feed b = eqb b 10

-- the lines that have their line feed, of the parts between line feeds: the last part has none
abbrev pub whole_of_parts : List (List ℕ) → List (List ℕ)
whole_of_parts [] = []
whole_of_parts (x ∷ []) = []
whole_of_parts (x ∷ y ∷ more) = strip_carriage_return x ∷ whole_of_parts (y ∷ more)

abbrev pub whole_lines : List ℕ → List (List ℕ)
whole_lines bytes = whole_of_parts (slice_split is_feed bytes)

-- the lines of what was taken of an input: before it has ended, what stands behind the last line feed is none
abbrev pub taken_lines : List ℕ → Bool → List (List ℕ)
taken_lines bytes ended = if ended then lines bytes else whole_lines bytes

-- the line asks nothing
abbrev pub AsksNothing : List ℕ → Type 0
AsksNothing text = (lane : ℕ) (pool : List ℕ) (act : Act) → IsLine text lane pool act → ⊥

-- no line is there, or one that is not in the grammar
abbrev pub StopsAt : List (List ℕ) → Type 0
StopsAt [] = Unit {0}
StopsAt (text ∷ after) = (text ≡ fence → ⊥) × AsksNothing text

-- the batches of the lines before the first that is not in the grammar
pub record IsFrontOf (bytes : List ℕ) (ended : Bool) (batches : List (List Request)) : Type 0 where
  pub before : List (List ℕ)
  pub after : List (List ℕ)
  pub cut : taken_lines bytes ended ≡ before ++ after
  pub spelled : AreBatches 1 before batches
  pub stops : StopsAt after

-- no line is there, or one that asks nothing
abbrev pub EndsBatch : List (List ℕ) → Type 0
EndsBatch [] = Unit {0}
EndsBatch (text ∷ after) = AsksNothing text

-- the batch at this place of the front, from 0: no line behind it asks more of it
pub record IsBatchAt (bytes : List ℕ) (ended : Bool) (place : ℕ) (batch : List Request) : Type 0 where
  pub earlier : List (List Request)
  pub place_is : length earlier ≡ place
  pub before : List (List ℕ)
  pub after : List (List ℕ)
  pub cut : taken_lines bytes ended ≡ before ++ after
  pub spelled : AreBatches 1 before (earlier ++ batch ∷ [])
  pub ends : EndsBatch after

-- it is the member at this place
pub record IsMemberAt (batches : List (List Request)) (place : ℕ) (batch : List Request) : Type 0 where
  pub before : List (List Request)
  pub after : List (List Request)
  pub cut : batches ≡ before ++ batch ∷ after
  pub place_is : length before ≡ place

-- An input has one front. The batch at a place is its member there, and its last member is the batch at the last place. The front of
-- an input that has ended and is in the grammar are its batches.
pub record FrontLaw : Type 0 where
  pub only : (bytes : List ℕ) (ended : Bool) (a b : List (List Request)) → IsFrontOf bytes ended a → IsFrontOf bytes ended b
      → a ≡ b
  pub member : (bytes : List ℕ) (ended : Bool) (batches : List (List Request)) (place : ℕ) (batch : List Request)
      → IsFrontOf bytes ended batches → IsBatchAt bytes ended place batch → IsMemberAt batches place batch
  pub last : (bytes : List ℕ) (ended : Bool) (earlier : List (List Request)) (batch : List Request)
      → IsFrontOf bytes ended (earlier ++ batch ∷ []) → IsBatchAt bytes ended (length earlier) batch
  pub whole : (bytes : List ℕ) (batches : List (List Request)) → IsRequestText bytes batches → IsFrontOf bytes true batches
