-- What holds of the summaries of every history.
use Rattle.std.specs.Prelude.{◌≡◌, ◌≤◌, ℕ, true, List, [], ◌∷◌, ◌++◌, length, take, pos, ◌+ℤ◌, ◌-ℤ◌, Some}
use Rattle.printed_text.specs.claim_history.specs.declared.call.PoolEntry.{PoolEntry}
use Rattle.printed_text.specs.claim_history.specs.declared.entry.Entry.{Entry}
use Rattle.printed_text.specs.claim_history.specs.Facts.{balance_of}
use Rattle.printed_text.specs.claim_history.specs.History.{is_accepted}
use Rattle.printed_text.specs.claim_history.specs.Rounds.{open_cut_of}
use Rattle.printed_text.specs.claim_book.specs.Book.{ledger_of}
use Rattle.journal_summaries.specs.Account.{added, taken}
use Rattle.journal_summaries.specs.Seal.{seal_text}

-- after an accepted entry the balance of a firm is the one before, plus what the entry adds less what it takes
abbrev pub BalanceLaw : Type 0
BalanceLaw = (history : List Entry) (e : Entry) (firm : List ℕ) → is_accepted e ≡ true
    → balance_of (ledger_of (history ++ e ∷ [])) firm
    ≡ (balance_of (ledger_of history) firm +ℤ pos (added firm (open_cut_of history) e)) -ℤ pos (taken firm (open_cut_of history) e)

-- two journals whose first so many acts are the same have the same line
abbrev pub SealLaw : Type 0
SealLaw = (acts : ℕ) (one other : List PoolEntry) → acts ≤ length one → acts ≤ length other → take acts one ≡ take acts other
    → seal_text (Some acts) one ≡ seal_text (Some acts) other
