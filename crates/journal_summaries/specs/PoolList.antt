-- The pools of a history, and how full each is.
use Rattle.std.specs.Prelude.{ℕ, List, [], ◌∷◌, count_by, length, map, sum_by, codes, decimal}
use Rattle.printed_text.specs.claim_history.specs.declared.call.PoolEntry.{PoolEntry}
use Rattle.printed_text.specs.claim_history.specs.declared.entry.Entry.{Entry}
use Rattle.printed_text.specs.claim_history.specs.Cut.{distinct}
use Rattle.printed_text.specs.claim_history.specs.Facts.{account_facts, claim_facts}
use Rattle.printed_text.specs.claim_history.specs.History.{is_opening}
use Rattle.printed_text.specs.claim_history.specs.Pools.{entries_in}
use Rattle.printed_text.specs.claim_book.specs.Book.{ledger_of}
use Rattle.printed_text.specs.firm_notices.specs.Notices.{is_open}
use Rattle.printed_text.specs.firm_notices.specs.Tables.{csv_text}
use Rattle.printed_text.specs.Printing.{rounds_in}
use Rattle.journal_summaries.specs.declared.pool_list.PoolCounts.{PoolCounts}

-- the pools that have an entry, each once, in order of its first one
abbrev pub pools_of : List PoolEntry → List (List ℕ)
pools_of history = distinct (map (λ m. m.pool) history)

-- the names of the fields
abbrev pub pool_names : List (List ℕ)
pool_names = codes "pool" ∷ codes "entries" ∷ codes "firms" ∷ codes "claims" ∷ codes "open" ∷ codes "opened" ∷ codes "published" ∷ []

-- how many entries, registered firms, filed claims and open ones a pool has, and how many rounds were opened and published in it
abbrev pub counts_in : List Entry → PoolCounts
counts_in entries = record {
  entries = length entries;
  firms = length (account_facts (ledger_of entries));
  claims = length (claim_facts (ledger_of entries));
  open_claims = count_by is_open (claim_facts (ledger_of entries));
  rounds = count_by (λ e. is_opening e.reply) entries;
  published = sum_by (λ e. rounds_in e.reply) entries;
}

-- the fields of a pool
abbrev pub count_fields : List ℕ → PoolCounts → List (List ℕ)
count_fields pool n =
    pool ∷ decimal n.entries ∷ decimal n.firms ∷ decimal n.claims ∷ decimal n.open_claims ∷ decimal n.rounds ∷ decimal n.published ∷ []

-- the names, and a row for each pool, as CSV
abbrev pub pools_text : List PoolEntry → List ℕ
pools_text history = csv_text (pool_names ∷ map (λ pool. count_fields pool (counts_in (entries_in pool history))) (pools_of history))
