-- The notices: the open claims, with the days that each is overdue.
use Rattle.std.specs.Prelude.{ℕ, ◌-◌, Bool, not, ◌&&◌, nat_lt, List, [], ◌∷◌, map, filter, codes, decimal}
use Rattle.setoff_model.specs.Texts.{cents_text}
use Rattle.claim_book.specs.claim_history.specs.Days.{day_text}
use Rattle.claim_book.specs.claim_history.specs.Facts.{Ledger, claim_facts}
use Rattle.claim_book.specs.claim_history.specs.History.{is_withdrawn}
use Rattle.claim_book.specs.claim_history.specs.declared.fact.ClaimFact.{ClaimFact}
use Rattle.claim_book.specs.claim_history.specs.declared.fact.Status.{Status}
use Rattle.claim_book.specs.claim_history.specs.declared.fact.Status.TheVariants as status
use Rattle.firm_notices.specs.Tables.{csv_text}

-- the word of a status
abbrev pub status_text : Status → List ℕ
status_text status.Filed = codes "filed"
status_text status.Confirmed = codes "confirmed"
status_text status.Disputed = codes "disputed"
status_text status.Withdrawn = codes "withdrawn"

-- the claim is not withdrawn, and its open amount is above 0
abbrev pub is_open : ClaimFact → Bool
is_open claim = not (is_withdrawn claim.status) && nat_lt 0 claim.left

-- the names of the fields
abbrev pub notice_names : List (List ℕ)
notice_names = codes "debtor" ∷ codes "creditor" ∷ codes "invoice" ∷ codes "status" ∷ codes "amount" ∷ codes "open"
    ∷ codes "part" ∷ codes "due" ∷ codes "overdue" ∷ []

-- the fields of a claim; the last is the number of days from the due day to today, 0 where it is not past
abbrev pub notice_fields : ℕ → ClaimFact → List (List ℕ)
notice_fields today claim =
    claim.debtor ∷ claim.key.creditor ∷ claim.key.invoice ∷ status_text claim.status ∷ cents_text claim.amount ∷ cents_text claim.left
    ∷ cents_text claim.part ∷ day_text claim.due ∷ decimal (today - claim.due) ∷ []

-- the names, and a row for each open claim in order of filing
abbrev pub notice_rows : ℕ → List ClaimFact → List (List (List ℕ))
notice_rows today claims = notice_names ∷ map (notice_fields today) (filter is_open claims)

-- as CSV
abbrev pub notices_text : ℕ → Ledger → List ℕ
notices_text today l = csv_text (notice_rows today (claim_facts l))
