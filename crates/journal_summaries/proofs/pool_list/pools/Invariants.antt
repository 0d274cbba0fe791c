use Rattle.std.proofs.Common.{◌∷◌, map, take}
use Rattle.printed_text.specs.claim_history.specs.Pools.{entries_in}
use Rattle.printed_text.specs.firm_notices.specs.Tables.{HoldsText, csv_text}
use Rattle.journal_summaries.specs.PoolList.{count_fields, counts_in, pool_names}
use Rattle.journal_summaries.proofs.pool_list.pools.Given as goal

-- the rows of the pools so far are written
abbrev pub invariant-loop-pool : goal.invariant-loop-pool
invariant-loop-pool l = record {
  rows : HoldsText l.table (csv_text (pool_names ∷ map (λ pool. count_fields pool (counts_in (entries_in pool l.books.members))) (take l.pool-index l.pools)));
}
