-- Invoices as CSV: a row of names, and below it a row for each invoice, which are read as FILE requests.
use Rattle.std.specs.Prelude.{◌≡◌, ◌≢◌, ℕ, ◌+◌, List, [], ◌∷◌, ◌++◌, length, map, codes}
use Rattle.claim_book.specs.claim_history.specs.declared.act.Act.{Act}
use Rattle.claim_book.specs.claim_history.specs.Pools.{main_pool}
use Rattle.request_text.specs.Grammar.{AreArgs, Asked, request_line, batch_text, numbered, IsRequestText}
use Rattle.request_text.specs.Lanes.{IsLane}
use Rattle.request_text.specs.Causes.{forms_of, IsFirstBadField}
use Rattle.request_text.specs.declared.verb.Verb.TheVariants as verbs
use Rattle.firm_notices.specs.Rows.{AreRows, AreFirstRows}
use Rattle.firm_notices.specs.declared.error.RowCause.{RowCause}
use Rattle.firm_notices.specs.declared.error.RowCause.TheVariants as cause
use Rattle.firm_notices.specs.declared.error.ImportError.{ImportError}
use Rattle.firm_notices.specs.declared.error.ImportError.TheVariants as errors

-- the names of the fields
abbrev pub invoice_names : List (List ℕ)
invoice_names = codes "creditor" ∷ codes "invoice" ∷ codes "debtor" ∷ codes "amount" ∷ codes "due" ∷ []

-- the fields of a row are those of this FILE
abbrev pub IsInvoice : List (List ℕ) → Act → Type 0
IsInvoice fields filing = AreArgs (codes "FILE") fields filing

-- each row is that of a FILE
abbrev pub AreInvoices : List (List (List ℕ)) → List Act → Type 0
AreInvoices [] [] = Unit {0}
AreInvoices [] (filing ∷ filings) = ⊥
AreInvoices (row ∷ rows) [] = ⊥
AreInvoices (row ∷ rows) (filing ∷ filings) = IsInvoice row filing × AreInvoices rows filings

-- the bytes are the names and the rows of these FILEs
abbrev pub IsInvoiceText : List ℕ → List Act → Type 0
IsInvoiceText bytes filings = (rows : List (List (List ℕ))) × AreRows bytes (invoice_names ∷ rows) × AreInvoices rows filings

-- ---- the lines of FILEs

-- a FILE that is asked of a lane, in the pool MAIN
abbrev pub asked_of : ℕ → Act → Asked
asked_of lane filing = record { lane = lane; pool = main_pool; act = filing }

-- the lines of FILEs in a lane
abbrev pub import_text : ℕ → List Act → List ℕ
import_text lane filings = batch_text (map (asked_of lane) filings)

-- a text has grown by the line of the FILE with these fields
abbrev pub IsFiled : ℕ → List (List ℕ) → List ℕ → List ℕ → Type 0
IsFiled lane fields old new = (filing : Act) × IsInvoice fields filing × (new ≡ old ++ request_line lane main_pool filing)

-- ---- rows that are none

-- why a row below the names is no invoice, by the first cause that applies
abbrev pub HasCause : List (List ℕ) → RowCause → Type 0
HasCause fields cause.Header = ⊥
HasCause fields cause.Fields = length fields ≢ 5
HasCause fields (cause.Field place) = (length fields ≡ 5) × IsFirstBadField (forms_of verbs.File) fields place

-- the rows before this one are the names and invoices, and this one is no invoice
pub record IsBadInvoice (bytes : List ℕ) (row : ℕ) (why : RowCause) : Type 0 where
  pub before : List (List (List ℕ))
  pub fields : List (List ℕ)
  pub cut : AreFirstRows bytes (invoice_names ∷ before ++ fields ∷ [])
  pub number_is : row ≡ length before + 2
  pub filings : List Act
  pub spelled : AreInvoices before filings
  pub bad : HasCause fields why

-- the first row, counted from 1, that is not as it has to be, and why
abbrev pub IsFirstBadRow : List ℕ → ℕ → RowCause → Type 0
IsFirstBadRow bytes row cause.Header = (row ≡ 1) × (AreFirstRows bytes (invoice_names ∷ []) → ⊥)
IsFirstBadRow bytes row why = IsBadInvoice bytes row why

-- what holds of the row and the cause of an error
abbrev pub OnBadRow : (ℕ → RowCause → Type 0) → ImportError → Type 0
OnBadRow P errors.Memory = Unit {0}
OnBadRow P (errors.BadRow row why) = P row why

-- ---- one reading

-- no bytes are invoices of two lists of FILEs, and none that are invoices have a bad row
pub record OneReadingLaw : Type 0 where
  pub only : (bytes : List ℕ) (a b : List Act) → IsInvoiceText bytes a → IsInvoiceText bytes b → a ≡ b
  pub refused : (bytes : List ℕ) (filings : List Act) (row : ℕ) (why : RowCause) → IsInvoiceText bytes filings
      → IsFirstBadRow bytes row why → ⊥

-- the lines of the FILEs that invoices spell are a batch of requests, which ask for these FILEs
abbrev pub FiledLaw : Type 0
FiledLaw = (lane : ℕ) (bytes : List ℕ) (filings : List Act) → IsLane lane → IsInvoiceText bytes filings
    → IsRequestText (import_text lane filings) (numbered 1 (map (asked_of lane) filings) ∷ [])
