-- What the rows of the register of a firm tell, in every legal history of all pools.
use Rattle.std.specs.Prelude.{◌≡◌, ℕ, List, [], ◌∷◌, ◌++◌, ℤ, pos, ◌+ℤ◌, ◌-ℤ◌}
use Rattle.printed_text.specs.claim_history.specs.declared.call.PoolEntry.{PoolEntry}
use Rattle.printed_text.specs.claim_history.specs.declared.fact.Position.{Position}
use Rattle.printed_text.specs.claim_history.specs.Facts.{position_of}
use Rattle.printed_text.specs.claim_history.specs.Pools.{IsLegal, ledger_in}
use Rattle.journal_summaries.specs.Account.{AccountRow, account_rows}

-- the last row has the position of the firm after the whole history
abbrev pub LastRowLaw : Type 0
LastRowLaw = (history : List PoolEntry) (pool firm : List ℕ) (rows : List AccountRow) (last : AccountRow) → IsLegal history
    → account_rows pool firm history ≡ rows ++ last ∷ [] → last.position ≡ position_of (ledger_in history pool) firm

-- where nothing stands
abbrev pub no_position : Position
no_position = record { balance = pos 0; receivable = 0; payable = 0 }

-- so it is where the register has no row
abbrev pub NoRowLaw : Type 0
NoRowLaw = (history : List PoolEntry) (pool firm : List ℕ) → IsLegal history → account_rows pool firm history ≡ []
    → position_of (ledger_in history pool) firm ≡ no_position

-- the balances run on from this one: that of each row is the one before it, plus what the row adds less what it takes
abbrev pub RunOnFrom : ℤ → List AccountRow → Type 0
RunOnFrom balance [] = Unit {0}
RunOnFrom balance (row ∷ rows) =
    (row.position.balance ≡ (balance +ℤ pos row.added) -ℤ pos row.taken) × RunOnFrom row.position.balance rows

-- those of a register run on from 0
abbrev pub RunningLaw : Type 0
RunningLaw = (history : List PoolEntry) (pool firm : List ℕ) → IsLegal history → RunOnFrom (pos 0) (account_rows pool firm history)
