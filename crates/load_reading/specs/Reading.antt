-- The text of a load: that of requests, but CLOSE is no verb of it.
use Rattle.std.specs.Prelude.{◌≡◌, ◌+◌, ◌⊎◌, ℕ, Bool, true, false, List, ◌∷◌, ◌++◌, All, length, decimal}
use Rattle.std.specs.Str.Lines.{lines}
use Rattle.text_lines.specs.Fields.{fields}
use Rattle.request_text.specs.declared.error.LineCause.{LineCause}
use Rattle.request_text.specs.declared.error.LineCause.TheVariants as causes
use Rattle.request_text.specs.declared.request.Request.{Request}
use Rattle.request_text.specs.declared.verb.Verb.TheVariants as verbs
use Rattle.request_text.specs.Lanes.{IsLane, fence}
use Rattle.request_text.specs.Pools.{IsOtherPool}
use Rattle.request_text.specs.Causes.{BeginsAt, HasCause, verb_text}
use Rattle.request_text.specs.Grammar.{AreBatches, IsRequestText}
use Rattle.request_text.specs.claim_history.specs.Acts.{is_close}

-- ---- the verb CLOSE

-- it is the first of these fields
abbrev pub BeginsWithClose : List (List ℕ) → Type 0
BeginsWithClose fields = (args : List (List ℕ)) × (fields ≡ verb_text verbs.Close ∷ args)

-- it stands behind a field that begins with `@`
abbrev pub ClosesOther : List (List ℕ) → Type 0
ClosesOther after = (name : List ℕ) × ((others : List (List ℕ)) × (BeginsAt after name others × BeginsWithClose others))

abbrev pub ClosesIn : List (List ℕ) → Type 0
ClosesIn after = BeginsWithClose after ⊎ ClosesOther after

-- it stands in the place of the verb, whatever the lane and the pool before it are
abbrev pub NamesClose : List (List ℕ) → Type 0
NamesClose parts = (lane : List ℕ) × ((after : List (List ℕ)) × ((parts ≡ lane ∷ after) × ClosesIn after))

-- it does not
abbrev pub NamesNone : List ℕ → Type 0
NamesNone line = NamesClose (fields line) → ⊥

-- the fields after a lane ask for it, of MAIN or of the pool that they name
abbrev pub ClosesAfter : List (List ℕ) → Type 0
ClosesAfter after = BeginsWithClose after
    ⊎ ((pool : List ℕ) × ((others : List (List ℕ)) × (IsOtherPool pool × BeginsAt after pool others × BeginsWithClose others)))

-- the fields ask a lane for it
abbrev pub AsksClose : List (List ℕ) → Type 0
AsksClose parts = (lane : ℕ) × ((after : List (List ℕ)) × (IsLane lane × (parts ≡ decimal lane ∷ after) × ClosesAfter after))

-- ---- malformed lines

-- the cause lies behind the verb
abbrev pub is_behind_verb : LineCause → Bool
is_behind_verb causes.Fields = true
is_behind_verb (causes.Field k) = true
is_behind_verb _ = false

-- The first cause that applies: as of a request, but where the fields ask for CLOSE the cause is the verb, whatever stands behind it.
abbrev pub HasLoadCause : List (List ℕ) → LineCause → Type 0
HasLoadCause parts causes.Lane = HasCause parts causes.Lane
HasLoadCause parts causes.Pool = HasCause parts causes.Pool
HasLoadCause parts causes.Verb = HasCause parts causes.Verb ⊎ AsksClose parts
HasLoadCause parts cause = HasCause parts cause × (AsksClose parts → ⊥)

-- the line is no fence, and this is the first cause that applies
pub record IsBadLoadLine (line : List ℕ) (cause : LineCause) : Type 0 where
  pub no_fence : line ≡ fence → ⊥
  pub why : HasLoadCause (fields line) cause

-- ---- texts

-- no request of these batches is a Close
abbrev pub HaveNoClose : List (List Request) → Type 0
HaveNoClose batches = All (λ batch. All (λ request. is_close request.act ≡ false) batch) batches

-- the bytes are the lines of these batches, none of which is a Close
abbrev pub IsLoadText : List ℕ → List (List Request) → Type 0
IsLoadText bytes batches = IsRequestText bytes batches × HaveNoClose batches

-- no batches have these bytes
abbrev pub IsNoLoadText : List ℕ → Type 0
IsNoLoadText bytes = (batches : List (List Request)) → IsLoadText bytes batches → ⊥

-- the lines before this one are in the grammar, and this one is not, for this cause
pub record IsFirstBadLoadLine (bytes : List ℕ) (number : ℕ) (cause : LineCause) : Type 0 where
  pub before : List (List ℕ)
  pub line : List ℕ
  pub after : List (List ℕ)
  pub cut : lines bytes ≡ before ++ line ∷ after
  pub number_is : number ≡ length before + 1
  pub batches : List (List Request)
  pub spelled : AreBatches 1 before batches
  pub no_close : HaveNoClose batches
  pub bad : IsBadLoadLine line cause

-- the line with this number is the first in which CLOSE stands in the place of the verb
pub record IsFirstNaming (bytes : List ℕ) (number : ℕ) : Type 0 where
  pub before : List (List ℕ)
  pub line : List ℕ
  pub after : List (List ℕ)
  pub cut : lines bytes ≡ before ++ line ∷ after
  pub number_is : number ≡ length before + 1
  pub none : All NamesNone before
  pub names : NamesClose (fields line)
