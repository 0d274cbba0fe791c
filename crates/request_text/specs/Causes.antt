-- What is wrong with a line: the first of the causes that applies.
use Rattle.std.specs.Prelude.{◌≡◌, ◌≤◌, ◌⊎◌, ℕ, zero, suc, true, List, [], ◌∷◌, length, codes, decimal}
use Rattle.std.specs.List.{sum_by}
use Rattle.setoff_model.specs.Names.{is_name}
use Rattle.setoff_model.specs.Texts.{cents_text, kind_text}
use Rattle.setoff_model.specs.declared.kind.Kind.{Kind}
use Rattle.text_lines.specs.Fields.{fields}
use Rattle.claim_history.specs.Days.{day_text}
use Rattle.claim_history.specs.Acts.{is_amount, is_claim_amount, is_day}
use Rattle.request_text.specs.declared.error.LineCause.{LineCause}
use Rattle.request_text.specs.declared.error.LineCause.TheVariants as causes
use Rattle.request_text.specs.declared.verb.Verb.{Verb}
use Rattle.request_text.specs.declared.verb.Verb.TheVariants as verbs
use Rattle.request_text.specs.Lanes.{IsLane, fence}
use Rattle.request_text.specs.Pools.{IsOtherPool, pool_field}

-- what a field after a verb is: a name, an amount from 0.01 on, the same where it may be left out, an amount from 0.00 on, a kind, or
-- a date
pub data Form : Type 0 where
  named : Form
  some_cents : Form
  cents_or_none : Form
  any_cents : Form
  of_kind : Form
  on_day : Form

-- an amount from 0.01 on
abbrev pub IsSomeCents : List ℕ → Type 0
IsSomeCents field = (cents : ℕ) × ((is_claim_amount cents ≡ true) × (field ≡ cents_text cents))

-- the field is in its grammar and range
abbrev pub HasForm : Form → List ℕ → Type 0
HasForm named field = is_name field ≡ true
HasForm some_cents field = IsSomeCents field
HasForm cents_or_none field = IsSomeCents field
HasForm any_cents field = (cents : ℕ) × ((is_amount cents ≡ true) × (field ≡ cents_text cents))
HasForm of_kind field = (kind : Kind) × (field ≡ kind_text kind)
HasForm on_day field = (day : ℕ) × ((is_day day ≡ true) × (field ≡ day_text day))

abbrev pub verb_text : Verb → List ℕ
verb_text verbs.Firm = codes "FIRM"
verb_text verbs.File = codes "FILE"
verb_text verbs.Confirm = codes "CONFIRM"
verb_text verbs.Dispute = codes "DISPUTE"
verb_text verbs.Withdraw = codes "WITHDRAW"
verb_text verbs.Receive = codes "RECEIVE"
verb_text verbs.Fund = codes "FUND"
verb_text verbs.Draw = codes "DRAW"
verb_text verbs.Limit = codes "LIMIT"
verb_text verbs.Offer = codes "OFFER"
verb_text verbs.Position = codes "POSITION"
verb_text verbs.Close = codes "CLOSE"
verb_text verbs.Abandon = codes "ABANDON"

-- what the fields after a verb are; none but the last may be left out
abbrev pub forms_of : Verb → List Form
forms_of verbs.Firm = named ∷ []
forms_of verbs.File = named ∷ named ∷ named ∷ some_cents ∷ on_day ∷ []
forms_of verbs.Confirm = named ∷ named ∷ named ∷ cents_or_none ∷ []
forms_of verbs.Dispute = named ∷ named ∷ named ∷ []
forms_of verbs.Withdraw = named ∷ named ∷ []
forms_of verbs.Receive = named ∷ named ∷ some_cents ∷ []
forms_of verbs.Fund = named ∷ some_cents ∷ []
forms_of verbs.Draw = named ∷ some_cents ∷ []
forms_of verbs.Limit = named ∷ any_cents ∷ any_cents ∷ []
forms_of verbs.Offer = named ∷ any_cents ∷ []
forms_of verbs.Position = named ∷ []
forms_of verbs.Close = of_kind ∷ on_day ∷ []
forms_of verbs.Abandon = []

-- how many of the fields have to stand
abbrev pub needed : Form → ℕ
needed cents_or_none = 0
needed form = 1

-- the number of the fields is the verb's: those that have to stand do, and there are no others than those that may
abbrev pub AreCounted : List Form → List (List ℕ) → Type 0
AreCounted forms args = (sum_by needed forms ≤ length args) × (length args ≤ length forms)

-- the k-th field, from 1, is the first that is not in its grammar and range
abbrev pub IsFirstBadField : List Form → List (List ℕ) → ℕ → Type 0
IsFirstBadField [] args k = ⊥
IsFirstBadField (form ∷ forms) [] k = ⊥
IsFirstBadField (form ∷ forms) (field ∷ args) zero = ⊥
IsFirstBadField (form ∷ forms) (field ∷ args) (suc zero) = HasForm form field → ⊥
IsFirstBadField (form ∷ forms) (field ∷ args) (suc (suc k)) = HasForm form field × IsFirstBadField forms args (suc k)

-- the number of the fields after the verb is not the verb's; or it is, and the k-th is the first that is not in its grammar and range
abbrev pub HasArgsCause : List Form → List (List ℕ) → LineCause → Type 0
HasArgsCause forms args causes.Fields = AreCounted forms args → ⊥
HasArgsCause forms args (causes.Field k) = AreCounted forms args × IsFirstBadField forms args k
HasArgsCause forms args _ = ⊥

-- there is no field, or the first is no verb; or it is one, and the cause is in the fields after it
abbrev pub HasVerbCause : List (List ℕ) → LineCause → Type 0
HasVerbCause after causes.Verb = (verb : Verb) (args : List (List ℕ)) → after ≡ verb_text verb ∷ args → ⊥
HasVerbCause after cause = (verb : Verb) × ((args : List (List ℕ))
    × ((after ≡ verb_text verb ∷ args) × HasArgsCause (forms_of verb) args cause))

-- the first of the fields is `@` and these bytes, and the others stand after it
abbrev pub BeginsAt : List (List ℕ) → List ℕ → List (List ℕ) → Type 0
BeginsAt after name others = after ≡ pool_field name ∷ others

-- the first of the fields does not begin with `@`
abbrev pub BeginsElsewhere : List (List ℕ) → Type 0
BeginsElsewhere after = (name : List ℕ) (others : List (List ℕ)) → BeginsAt after name others → ⊥

-- the first field after the lane begins with `@`, and what is behind it is no pool other than MAIN; or it is one, and the cause is in
-- the fields after it; or it does not begin so, and the cause is in the fields after the lane
abbrev pub HasPoolCause : List (List ℕ) → LineCause → Type 0
HasPoolCause after causes.Pool = (name : List ℕ) × ((others : List (List ℕ)) × (BeginsAt after name others × (IsOtherPool name → ⊥)))
HasPoolCause after cause = (BeginsElsewhere after × HasVerbCause after cause)
    ⊎ ((pool : List ℕ) × ((others : List (List ℕ)) × (IsOtherPool pool × BeginsAt after pool others × HasVerbCause others cause)))

-- the first field is no lane; or it is one, and the cause is in the fields after it
abbrev pub HasCause : List (List ℕ) → LineCause → Type 0
HasCause parts causes.Lane = (lane : ℕ) (after : List (List ℕ)) → IsLane lane → parts ≡ decimal lane ∷ after → ⊥
HasCause parts cause = (lane : ℕ) × ((after : List (List ℕ)) × (IsLane lane × (parts ≡ decimal lane ∷ after) × HasPoolCause after cause))

-- the line is no fence, and this is the first cause that applies
pub record IsBadLine (line : List ℕ) (cause : LineCause) : Type 0 where
  pub no_fence : line ≡ fence → ⊥
  pub why : HasCause (fields line) cause
