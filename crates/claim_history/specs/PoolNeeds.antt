-- What the acts of all pools take of the two limits, entries and the bytes of a journal, and the room that is kept for both endings
-- of each open round. A past is a list of members, newest first. The history in order of time is its reverse.
use Rattle.std.specs.Prelude.{◌≡◌, ℕ, ◌+◌, ◌*◌, ◌≤◌, nat_lt, Bool, true, false, not, ◌&&◌, ◌||◌, if◌then◌else◌}
use Rattle.std.specs.Prelude.{List, All, [], ◌∷◌, ◌++◌, length, reverse, count_by, Option, None, Some, ◌↔◌}
use Rattle.std.specs.List.{sum_by, list_any}
use Rattle.setoff_model.specs.declared.limits.TheConstants.{MOST_ENTRIES, MOST_JOURNAL_BYTES}
use Rattle.setoff_model.specs.CutView.{OutcomeView}
use Rattle.setoff_model.specs.Same.{same_name}
use Rattle.claim_history.specs.declared.act.Act.TheVariants as act
use Rattle.claim_history.specs.declared.entry.Reply.{Reply}
use Rattle.claim_history.specs.declared.entry.Reply.TheVariants as reply
use Rattle.claim_history.specs.declared.call.Call.{Call}
use Rattle.claim_history.specs.declared.call.PoolEntry.{PoolEntry}
use Rattle.claim_history.specs.States.{OpenRound, state}
use Rattle.claim_history.specs.History.{is_accepted, is_no_refusal}
use Rattle.claim_history.specs.Needs.{record_length_of, endings_entries, endings_bytes, is_counted, open_after}
use Rattle.claim_history.specs.Pools.{IsLegal, accepted_calls, call_of, due_member, due_of_past, due_reply}
use Rattle.claim_history.specs.Pools.{entries_in, entries_of, is_main, open_round_in, replay_of, state_in}

-- ---- what a history uses

-- the bytes that name a pool in a record: none for the pool MAIN, else 1 for its tag, 1 for its length, and the name
abbrev pub pool_bytes : List ℕ → ℕ
pool_bytes pool = if is_main pool then 0 else 2 + length pool

-- the bytes of the record of a call
abbrev pub call_bytes : Call → ℕ
call_bytes call = record_length_of call.act + pool_bytes call.pool

-- the bytes of a journal of the accepted members: 8 at its head, their records, and 1 for the gate after the last
abbrev pub used_bytes : List PoolEntry → ℕ
used_bytes past = 9 + sum_by call_bytes (accepted_calls past)

-- how many members are counted
abbrev pub used_entries : List PoolEntry → ℕ
used_entries past = count_by is_counted (entries_of past)

-- both of a history
abbrev pub used_bytes_of : List PoolEntry → ℕ
used_bytes_of history = used_bytes (reverse history)

abbrev pub used_entries_of : List PoolEntry → ℕ
used_entries_of history = used_entries (reverse history)

-- ---- what the open rounds reserve

-- each pool once
abbrev pub pools_of : List PoolEntry → List (List ℕ)
pools_of [] = []
pools_of (m ∷ past) = if list_any (same_name m.pool) (pools_of past) then pools_of past else m.pool ∷ pools_of past

-- the round that is open in a pool after a past
abbrev pub open_in : List PoolEntry → List ℕ → Option OpenRound
open_in past pool = (state (entries_in pool past)).open_round

-- the bytes of both endings of the round that is open in a pool, the publication and an abandonment
abbrev pub pool_endings_bytes : List ℕ → Option OpenRound → ℕ
pool_endings_bytes pool None = 0
pool_endings_bytes pool (Some round) = endings_bytes (Some round) + 2 * pool_bytes pool

-- what both endings of the open rounds of all pools take
abbrev pub reserved_entries : List PoolEntry → ℕ
reserved_entries past = sum_by (λ pool. endings_entries (open_in past pool)) (pools_of past)

abbrev pub reserved_bytes : List PoolEntry → ℕ
reserved_bytes past = sum_by (λ pool. pool_endings_bytes pool (open_in past pool)) (pools_of past)

-- both of a history
abbrev pub reserved_entries_of : List PoolEntry → ℕ
reserved_entries_of history = reserved_entries (reverse history)

abbrev pub reserved_bytes_of : List PoolEntry → ℕ
reserved_bytes_of history = reserved_bytes (reverse history)

-- ---- what a call needs

-- the bytes of its own record, which it has where it is accepted
abbrev pub own_bytes : Call → Reply → ℕ
own_bytes call r = if is_no_refusal r then call_bytes call else 0

-- the entries in use, its own, and those of both endings of the rounds that are open afterwards
abbrev pub needed_entries : List PoolEntry → Call → ℕ
needed_entries past call = used_entries past + 1 + reserved_entries (due_member past call ∷ past)

-- the bytes in use, its own, and those of both endings of the rounds that are open afterwards
abbrev pub needed_bytes : List PoolEntry → Call → ℕ
needed_bytes past call = used_bytes past + own_bytes call (due_of_past past call) + reserved_bytes (due_member past call ∷ past)

-- both of a history
abbrev pub needed_entries_of : List PoolEntry → Call → ℕ
needed_entries_of history call = needed_entries (reverse history) call

abbrev pub needed_bytes_of : List PoolEntry → Call → ℕ
needed_bytes_of history call = needed_bytes (reverse history) call

-- ---- the limits

-- both needs are within their limits
pub record FitsPast (past : List PoolEntry) (call : Call) : Type 0 where
  pub entries : needed_entries past call ≤ MOST_ENTRIES
  pub bytes : needed_bytes past call ≤ MOST_JOURNAL_BYTES

-- the same of a history
abbrev pub Fits : List PoolEntry → Call → Type 0
Fits history call = FitsPast (reverse history) call

-- the need of entries is above its limit
abbrev pub lacks_entries : List PoolEntry → Call → Bool
lacks_entries history call = nat_lt MOST_ENTRIES (needed_entries_of history call)

-- the need of bytes is above its limit, and that of entries, which is tested first, is not
abbrev pub lacks_bytes : List PoolEntry → Call → Bool
lacks_bytes history call = not (lacks_entries history call) && nat_lt MOST_JOURNAL_BYTES (needed_bytes_of history call)

-- one of them is above its limit
abbrev pub is_full : List PoolEntry → Call → Bool
is_full history call = lacks_entries history call || lacks_bytes history call

-- each member, whatever its reply, was within the limits by the members before it
abbrev pub IsWithinLimitsPast : List PoolEntry → Type 0
IsWithinLimitsPast [] = Unit {0}
IsWithinLimitsPast (m ∷ past) = FitsPast past (call_of m) × IsWithinLimitsPast past

-- the same of a history in order of time
abbrev pub IsWithinLimits : List PoolEntry → Type 0
IsWithinLimits history = IsWithinLimitsPast (reverse history)

-- ---- room for both endings of each open round

-- what is used, and both endings of the open rounds, are within the limits
pub record HasRoom (history : List PoolEntry) : Type 0 where
  pub entries : used_entries_of history + reserved_entries_of history ≤ MOST_ENTRIES
  pub bytes : used_bytes_of history + reserved_bytes_of history ≤ MOST_JOURNAL_BYTES

-- so it is in a legal history within the limits
abbrev pub RoomLaw : Type 0
RoomLaw = (history : List PoolEntry) → IsLegal history → IsWithinLimits history → HasRoom history

-- each ending that would be accepted is within the limits
pub record EndingsFit (history : List PoolEntry) : Type 0 where
  pub publication : (caller number total : ℕ) (pool : List ℕ) (outcome : OutcomeView)
      → due_reply history (record { caller = caller; pool = pool; act = act.Publish number outcome }) ≡ reply.Published total
      → Fits history (record { caller = caller; pool = pool; act = act.Publish number outcome })
  pub abandonment : (caller number : ℕ) (pool : List ℕ)
      → due_reply history (record { caller = caller; pool = pool; act = act.Abandon }) ≡ reply.Abandoned number
      → Fits history (record { caller = caller; pool = pool; act = act.Abandon })

-- so it is in every legal history within the limits
abbrev pub EndingsLaw : Type 0
EndingsLaw = (history : List PoolEntry) → IsLegal history → IsWithinLimits history → EndingsFit history

-- the bytes of both endings of a round are those of the two records, where the publication has a discharge for each claim and a
-- price for each party of the cut
abbrev pub RecordsLaw : Type 0
RecordsLaw = (pool : List ℕ) (round : OpenRound) (caller number : ℕ) (outcome : OutcomeView)
    → length outcome.discharges ≡ length round.cut.claims → length outcome.prices ≡ length round.cut.parties
    → pool_endings_bytes pool (Some round) ≡ call_bytes (record { caller = caller; pool = pool; act = act.Publish number outcome })
    + call_bytes (record { caller = 0; pool = pool; act = act.Abandon })

-- ---- how the use grows

-- what one more member adds to the use and, in its own pool, to what is reserved; a history within the limits stays so where the
-- call fits
pub record UseGrows (history : List PoolEntry) (m : PoolEntry) : Type 0 where
  pub entries : used_entries_of (history ++ m ∷ []) ≡ used_entries_of history + (if is_counted m.entry then 1 else 0)
  pub bytes : used_bytes_of (history ++ m ∷ []) ≡ used_bytes_of history + own_bytes (call_of m) m.entry.reply
  pub reserved_entries : reserved_entries_of (history ++ m ∷ []) + endings_entries (open_round_in history m.pool)
      ≡ reserved_entries_of history + endings_entries (open_round_in (history ++ m ∷ []) m.pool)
  pub reserved_bytes : reserved_bytes_of (history ++ m ∷ []) + pool_endings_bytes m.pool (open_round_in history m.pool)
      ≡ reserved_bytes_of history + pool_endings_bytes m.pool (open_round_in (history ++ m ∷ []) m.pool)
  pub within : IsWithinLimits history → Fits history (call_of m) → IsWithinLimits (history ++ m ∷ [])

abbrev pub UseLaw : Type 0
UseLaw = (history : List PoolEntry) (m : PoolEntry) → UseGrows history m

-- what the open round of a pool takes is among what is reserved
pub record IsReserved (history : List PoolEntry) (pool : List ℕ) : Type 0 where
  pub entries : endings_entries (open_round_in history pool) ≤ reserved_entries_of history
  pub bytes : pool_endings_bytes pool (open_round_in history pool) ≤ reserved_bytes_of history

abbrev pub ReserveLaw : Type 0
ReserveLaw = (history : List PoolEntry) (pool : List ℕ) → IsReserved history pool

-- what calls use: an entry each, and where all are accepted a record each
pub record UseOfCalls (calls : List Call) : Type 0 where
  pub entries : used_entries_of (replay_of calls) ≡ length calls
  pub bytes : All (λ m. is_accepted m.entry ≡ true) (replay_of calls)
      → used_bytes_of (replay_of calls) ≡ 9 + sum_by call_bytes calls

abbrev pub CallsLaw : Type 0
CallsLaw = (calls : List Call) → UseOfCalls calls

-- a call needs what is used and reserved, its own, and for the open round of its pool the round that is open there afterwards
pub record NeedsOf (history : List PoolEntry) (call : Call) : Type 0 where
  pub entries : needed_entries_of history call + endings_entries (open_round_in history call.pool)
      ≡ used_entries_of history + 1 + reserved_entries_of history
      + endings_entries (open_after (state_in history call.pool) call.caller call.act)
  pub bytes : needed_bytes_of history call + pool_endings_bytes call.pool (open_round_in history call.pool)
      ≡ used_bytes_of history + own_bytes call (due_reply history call) + reserved_bytes_of history
      + pool_endings_bytes call.pool (open_after (state_in history call.pool) call.caller call.act)

abbrev pub NeedsLaw : Type 0
NeedsLaw = (history : List PoolEntry) (call : Call) → NeedsOf history call

-- a call is not full exactly where it fits
abbrev pub FullLaw : Type 0
FullLaw = (history : List PoolEntry) (call : Call) → (is_full history call ≡ false) ↔ Fits history call

-- ---- what the calls of a history bound

-- it uses at most an entry for each call and the bytes of a journal of all their records, whatever their replies
pub record UseIsBounded (history : List PoolEntry) : Type 0 where
  pub entries : used_entries_of history ≤ length history
  pub bytes : used_bytes_of history ≤ 9 + sum_by (λ m. call_bytes (call_of m)) history

abbrev pub UseBoundLaw : Type 0
UseBoundLaw = (history : List PoolEntry) → UseIsBounded history
