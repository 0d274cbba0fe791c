-- How many requests may come after a history so that no line of them is full.
use Rattle.std.specs.Prelude.{◌≡◌, ℕ, ◌+◌, ◌*◌, ◌≤◌, true, false, List, All, ◌++◌, length, count_by}
use Rattle.limited_book.specs.setoff_model.specs.declared.limits.TheConstants.{MOST_ENTRIES, MOST_JOURNAL_BYTES}
use Rattle.limited_book.specs.setoff_model.specs.Names.{is_name}
use Rattle.limited_book.specs.claim_history.specs.declared.call.PoolEntry.{PoolEntry}
use Rattle.limited_book.specs.claim_history.specs.Acts.{is_close, is_filing, is_registration, is_request}
use Rattle.limited_book.specs.claim_history.specs.Needs.{endings_with}
use Rattle.limited_book.specs.claim_history.specs.Pools.{AreValid, IsLegal}
use Rattle.limited_book.specs.claim_history.specs.PoolNeeds.{reserved_bytes_of, reserved_entries_of, used_bytes_of, used_entries_of}
use Rattle.request_text.specs.declared.request.Request.{Request}
use Rattle.served_lines.specs.declared.answer.Answer.{Answer}
use Rattle.served_lines.specs.Ends.{is_full_end, has_line_end}
use Rattle.served_lines.specs.Served.{IsServed}

-- each pool has a name, and each act is one that a line can ask for
pub record AreRequests (requests : List Request) : Type 0 where
  pub pools : All (λ request. is_name request.pool ≡ true) requests
  pub valid : All (λ request. is_request request.act ≡ true) requests

-- how many requests are a Close
abbrev pub closes : List Request → ℕ
closes requests = count_by (λ request. is_close request.act) requests

-- how many file a claim in any pool, with the calls of a history
abbrev pub claims_with : List PoolEntry → List Request → ℕ
claims_with history requests = count_by (λ m. is_filing m.entry.act) history + count_by (λ request. is_filing request.act) requests

-- how many register a firm in any pool, with the calls of a history
abbrev pub firms_with : List PoolEntry → List Request → ℕ
firms_with history requests =
    count_by (λ m. is_registration m.entry.act) history + count_by (λ request. is_registration request.act) requests

-- the most bytes that name a pool in a record: those of a name of 16 bytes
abbrev pub most_pool_bytes : ℕ
most_pool_bytes = 18

-- the bytes of the longest record of a request: that of a File with three names of 16 bytes, which is 73, in a pool with such a name
abbrev pub most_request_bytes : ℕ
most_request_bytes = 73 + most_pool_bytes

-- the bytes of both endings of a round of so many claims and parties, in a pool with such a name
abbrev pub most_endings : ℕ → ℕ → ℕ
most_endings claims firms = endings_with claims firms + 2 * most_pool_bytes

-- Beside what the history uses and what its open rounds reserve, there is room for all of the requests: for an entry and a record of
-- each, and for both endings of a round for each Close, since each may open a round in a pool of its own. No round has more claims
-- and firms than are asked for.
pub record IsWithinBound (history : List PoolEntry) (requests : List Request) : Type 0 where
  pub entries : used_entries_of history + reserved_entries_of history + (length requests + 2 * closes requests) ≤ MOST_ENTRIES
  pub bytes : used_bytes_of history + reserved_bytes_of history + most_request_bytes * length requests
      + most_endings (claims_with history requests) (firms_with history requests) * closes requests ≤ MOST_JOURNAL_BYTES

-- Where a batch and the requests of later ones are within the bound, none of its lines is full, and after what it added the later
-- ones are within the bound.
abbrev pub BoundLaw : Type 0
BoundLaw = (batch later : List Request) (answers : List Answer) (before added : List PoolEntry) → IsServed batch answers before added
    → IsLegal (before ++ added) → AreValid (before ++ added) → AreRequests batch
    → IsWithinBound before (batch ++ later) → (has_line_end is_full_end answers ≡ false) × IsWithinBound (before ++ added) later
