use Rattle.std.proofs.Common.{◌≡◌, map, take}
use Rattle.printed_text.specs.claim_history.specs.Cut.{distinct}
use Rattle.journal_summaries.proofs.pool_list.pools_in.Given as goal

-- the pools of the members so far
abbrev pub invariant-loop-place : goal.invariant-loop-place
invariant-loop-place l = record { pools : l.names.keys ≡ distinct (map (λ m. m.pool) (take l.place l.books.members)) }
