-- The text of requests: lines `lane VERB fields`, with `@POOL` behind the lane where the pool is not MAIN, and lines `FENCE`, each of
-- which ends a batch.
use Rattle.std.specs.Prelude.{◌≡◌, ℕ, ◌+◌, true, List, [], ◌∷◌, ◌++◌, length, codes, decimal, All, flat_map}
use Rattle.std.specs.Str.Lines.{lines}
use Rattle.setoff_model.specs.Names.{is_name}
use Rattle.text_lines.specs.Fields.{line_of}
use Rattle.claim_history.specs.declared.act.Act.{Act}
use Rattle.claim_history.specs.Acts.{is_request, act_fields}
use Rattle.request_text.specs.declared.error.LineCause.{LineCause}
use Rattle.request_text.specs.declared.error.RequestError.{RequestError}
use Rattle.request_text.specs.declared.error.RequestError.TheVariants as errors
use Rattle.request_text.specs.declared.request.Request.{Request}
use Rattle.request_text.specs.Lanes.{IsLane, fence, fence_line}
use Rattle.request_text.specs.Pools.{pool_fields}
use Rattle.request_text.specs.Causes.{IsBadLine}

-- a verb and the fields after it that are an act's
abbrev pub AreArgs : List ℕ → List (List ℕ) → Act → Type 0
AreArgs verb args act = (is_request act ≡ true) × (verb ∷ args ≡ act_fields act)

-- fields after a lane and a pool that are an act's
abbrev pub AreActFields : List (List ℕ) → Act → Type 0
AreActFields after act = (is_request act ≡ true) × (after ≡ act_fields act)

-- fields after a lane that are a pool's and an act's
abbrev pub ArePoolFields : List (List ℕ) → List ℕ → Act → Type 0
ArePoolFields after pool act = (is_name pool ≡ true) × (is_request act ≡ true) × (after ≡ pool_fields pool ++ act_fields act)

-- a lane, a pool that is not MAIN, and an act's fields
abbrev pub line_fields : ℕ → List ℕ → Act → List (List ℕ)
line_fields lane pool act = decimal lane ∷ (pool_fields pool ++ act_fields act)

-- fields that ask this of a lane in a pool
pub record AreFields (fields : List (List ℕ)) (lane : ℕ) (pool : List ℕ) (act : Act) : Type 0 where
  pub by : IsLane lane
  pub named : is_name pool ≡ true
  pub valid : is_request act ≡ true
  pub spelled : fields ≡ line_fields lane pool act

-- a line asks this of a lane in a pool: its fields stand with single spaces between them
pub record IsLine (line : List ℕ) (lane : ℕ) (pool : List ℕ) (act : Act) : Type 0 where
  pub by : IsLane lane
  pub named : is_name pool ≡ true
  pub valid : is_request act ≡ true
  pub spelled : line ≡ line_of (line_fields lane pool act)

-- each line is a request of the first batch, or ends it; the lines are numbered on
abbrev pub AreBatches : ℕ → List (List ℕ) → List (List Request) → Type 0
AreBatches number lines [] = ⊥
AreBatches number [] (batch ∷ batches) = (batch ≡ []) × (batches ≡ [])
AreBatches number (line ∷ lines) ([] ∷ batches) = (line ≡ fence) × AreBatches (number + 1) lines batches
AreBatches number (line ∷ lines) ((request ∷ requests) ∷ batches) =
    (request.line ≡ number) × IsLine line request.lane request.pool request.act × AreBatches (number + 1) lines (requests ∷ batches)

-- the bytes are the lines of these batches, numbered from 1
abbrev pub IsRequestText : List ℕ → List (List Request) → Type 0
IsRequestText bytes batches = AreBatches 1 (lines bytes) batches

-- no batches have these bytes
abbrev pub IsNoRequestText : List ℕ → Type 0
IsNoRequestText bytes = (batches : List (List Request)) → IsRequestText bytes batches → ⊥

-- the lines before this one are in the grammar, and this one is not, for this cause
pub record IsFirstBadLine (bytes : List ℕ) (number : ℕ) (cause : LineCause) : Type 0 where
  pub before : List (List ℕ)
  pub line : List ℕ
  pub after : List (List ℕ)
  pub cut : lines bytes ≡ before ++ line ∷ after
  pub number_is : number ≡ length before + 1
  pub batches : List (List Request)
  pub spelled : AreBatches 1 before batches
  pub bad : IsBadLine line cause

-- what holds of the line and the cause of an error
abbrev pub OnBadLine : (ℕ → LineCause → Type 0) → RequestError → Type 0
OnBadLine P errors.Memory = Unit {0}
OnBadLine P (errors.BadLine line cause) = P line cause

-- what is asked of a lane, and in which pool
pub record Asked : Type 0 where
  pub lane : ℕ
  pub pool : List ℕ
  pub act : Act

-- the lane is one, the pool has a name, and the act can be asked for
pub record CanBeAsked (asked : Asked) : Type 0 where
  pub by : IsLane asked.lane
  pub named : is_name asked.pool ≡ true
  pub valid : is_request asked.act ≡ true

-- the line of a request, with its end
abbrev pub request_line : ℕ → List ℕ → Act → List ℕ
request_line lane pool act = line_of (line_fields lane pool act) ++ codes "\n"

-- the lines of a batch
abbrev pub batch_text : List Asked → List ℕ
batch_text batch = flat_map (λ asked. request_line asked.lane asked.pool asked.act) batch

-- the lines of a batch and of those after it, with a fence before each of these
abbrev pub batches_text : List Asked → List (List Asked) → List ℕ
batches_text batch [] = batch_text batch
batches_text batch (next ∷ batches) = batch_text batch ++ (fence_line ++ batches_text next batches)

-- the requests of a batch, one on each line
abbrev pub numbered : ℕ → List Asked → List Request
numbered number [] = []
numbered number (asked ∷ batch) =
    record { line = number; lane = asked.lane; pool = asked.pool; act = asked.act } ∷ numbered (number + 1) batch

-- the requests of batches, and a line for each fence
abbrev pub all_numbered : ℕ → List (List Asked) → List (List Request)
all_numbered number [] = []
all_numbered number (batch ∷ batches) = numbered number batch ∷ all_numbered (number + length batch + 1) batches

-- What is written is read back: the lines of a batch and of those after it are their requests, and no bytes are the text of two
-- lists of batches.
pub record ReadBackLaw : Type 0 where
  pub written : (batch : List Asked) (batches : List (List Asked)) → All (All CanBeAsked) (batch ∷ batches)
      → IsRequestText (batches_text batch batches) (all_numbered 1 (batch ∷ batches))
  pub only : (bytes : List ℕ) (a b : List (List Request)) → IsRequestText bytes a → IsRequestText bytes b → a ≡ b
