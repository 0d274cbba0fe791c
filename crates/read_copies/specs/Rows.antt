-- The row of a firm, and how rows are put into a table.
use Rattle.std.specs.Prelude.{◌≡◌, ◌⊎◌, ℕ, Bool, true, nat_lt, List, [], ◌∷◌, ◌++◌, length, fold}
use Rattle.std.specs.Prelude.{find, position, slice_set, All, Option, Some, None, if◌then◌else◌}
use Rattle.std.specs.List.{list_any}
use Rattle.setoff_model.specs.declared.limits.TheConstants.{MOST_FIRMS}
use Rattle.setoff_model.specs.Same.{same_name}
use Rattle.claim_history.specs.Facts.{Ledger, is_registered, account_fact, position_of}
use Rattle.read_copies.specs.declared.row.Row.{Row}

-- ---- what a history says

-- the account and the position of a firm
abbrev pub row_of : Ledger → List ℕ → Row
row_of l firm = record { account = account_fact l firm; position = position_of l firm }

-- the row of a firm, where it is registered
abbrev pub row_in : Ledger → List ℕ → Option Row
row_in l firm = if is_registered l firm then Some (row_of l firm) else None

-- ---- what a table says

-- whose row it is
abbrev pub firm_of : Row → List ℕ
firm_of r = r.account.firm

-- the row of a firm, where there is one
abbrev pub row_at : List Row → List ℕ → Option Row
row_at rows firm = find (λ r. same_name firm (firm_of r)) rows

-- the row of each firm is that of the history
abbrev pub HasRows : Ledger → List Row → Type 0
HasRows l rows = (firm : List ℕ) → row_at rows firm ≡ row_in l firm

-- ---- how rows are put

-- a row at a place, or at the end, where there is room
abbrev pub put_at : List Row → Row → Option ℕ → List Row
put_at rows r (Some place) = slice_set rows place r
put_at rows r None = if nat_lt (length rows) MOST_FIRMS then rows ++ r ∷ [] else rows

-- a row in the place of its firm's, or at the end where the firm has none
abbrev pub put_row : List Row → Row → List Row
put_row rows r = put_at rows r (position (λ x. same_name (firm_of r) (firm_of x)) rows)

-- rows, one after the other
abbrev pub put_all : List Row → List Row → List Row
put_all rows changes = fold put_row rows changes

-- ---- changes

-- it is the row of its firm, which is registered
abbrev pub IsRowIn : Ledger → Row → Type 0
IsRowIn l r = row_in l (firm_of r) ≡ Some r

-- a firm has a row among the changes, or its row in the table is that of the history
abbrev pub IsSettled : Ledger → List Row → List Row → List ℕ → Type 0
IsSettled l rows changes firm = (list_any (λ r. same_name firm (firm_of r)) changes ≡ true) ⊎ (row_at rows firm ≡ row_in l firm)

-- changes were added, and no firm is less settled than before
pub record HasAdded (l : Ledger) (rows old new : List Row) : Type 0 where
  pub each : All (IsRowIn l) old → All (IsRowIn l) new
  pub kept : (firm : List ℕ) → IsSettled l rows old firm → IsSettled l rows new firm

-- and each registered firm that passes a test is settled
pub record AreSettled (l : Ledger) (rows : List Row) (test : List ℕ → Bool) (old new : List Row) : Type 0 where
  pub added : HasAdded l rows old new
  pub each : (firm : List ℕ) → test firm ≡ true → is_registered l firm ≡ true → IsSettled l rows new firm

-- and each registered firm is settled
abbrev pub AreAllSettled : Ledger → List Row → List Row → List Row → Type 0
AreAllSettled l rows old new = AreSettled l rows (λ firm. true) old new
