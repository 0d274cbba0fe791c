-- The history of the bureau: its members are entries of named pools, in order of time. Firms, claims, accounts and rounds are those
-- of one pool, so all that is said of them is said of the entries of a pool. As of entries, a past has the newest member first.
use Rattle.std.specs.Prelude.{ℕ, Bool, ◌==◌, List, [], ◌∷◌, ◌++◌, map, filter, reverse, codes, Option}
use Rattle.setoff_model.specs.Same.{same_name}
use Rattle.claim_history.specs.declared.entry.Entry.{Entry}
use Rattle.claim_history.specs.declared.entry.Reply.{Reply}
use Rattle.claim_history.specs.declared.call.Call.{Call}
use Rattle.claim_history.specs.declared.call.PoolEntry.{PoolEntry}
use Rattle.claim_history.specs.Facts.{Ledger}
use Rattle.claim_history.specs.States.{OpenRound, State, state, state_of}
use Rattle.claim_history.specs.History as one
use Rattle.claim_history.specs.History.{IsReply, answer, answer_of, is_accepted, last_count}

-- the pool of each act that names none
abbrev pub main_pool : List ℕ
main_pool = codes "MAIN"

-- the pool is that one
abbrev pub is_main : List ℕ → Bool
is_main pool = same_name pool main_pool

-- an entry of a pool
abbrev pub member_of : List ℕ → Entry → PoolEntry
member_of pool e = record { pool = pool; entry = e }

-- the member is one of the pool
abbrev pub is_in : List ℕ → PoolEntry → Bool
is_in pool m = same_name pool m.pool

-- the entries of a pool, in the order of the list
abbrev pub entries_in : List ℕ → List PoolEntry → List Entry
entries_in pool members = map (λ m. m.entry) (filter (is_in pool) members)

-- the entries of all pools, in the order of the list
abbrev pub entries_of : List PoolEntry → List Entry
entries_of members = map (λ m. m.entry) members

-- ---- what a pool comes to

-- the state of a pool after a history
abbrev pub state_in : List PoolEntry → List ℕ → State
state_in history pool = state_of (entries_in pool history)

-- what is known there of claims and accounts
abbrev pub ledger_in : List PoolEntry → List ℕ → Ledger
ledger_in history pool = (state_in history pool).ledger

-- the round that is open there
abbrev pub open_round_in : List PoolEntry → List ℕ → Option OpenRound
open_round_in history pool = (state_in history pool).open_round

-- ---- calls

-- the caller, the pool and the act of a member
abbrev pub call_of : PoolEntry → Call
call_of m = record { caller = m.entry.caller; pool = m.pool; act = m.entry.act }

-- the accepted members, in the order of the list
abbrev pub accepted_members : List PoolEntry → List PoolEntry
accepted_members members = filter (λ m. is_accepted m.entry) members

-- and their calls
abbrev pub accepted_calls : List PoolEntry → List Call
accepted_calls members = map call_of (accepted_members members)

-- the members of one caller, in the order of the list
abbrev pub members_by : ℕ → List PoolEntry → List PoolEntry
members_by caller members = filter (λ m. m.entry.caller == caller) members

-- the member of a call with a reply
abbrev pub answered : Call → Reply → PoolEntry
answered call r = member_of call.pool (record { caller = call.caller; act = call.act; reply = r })

-- the one reply of a past to a call, that of the entries of its pool
abbrev pub due_of_past : List PoolEntry → Call → Reply
due_of_past past call = answer (state (entries_in call.pool past)) call.caller call.act

-- the reply that is due of a call after a history
abbrev pub due_reply : List PoolEntry → Call → Reply
due_reply history call = answer_of (entries_in call.pool history) call.caller call.act

-- the member that is due of a call after a past
abbrev pub due_member : List PoolEntry → Call → PoolEntry
due_member past call = answered call (due_of_past past call)

-- the history with the call and the reply that is due
abbrev pub with_due : List PoolEntry → Call → List PoolEntry
with_due history call = history ++ answered call (due_reply history call) ∷ []

-- each call in turn gets the one reply of its pool
abbrev pub replay_after : List PoolEntry → List Call → List PoolEntry
replay_after past [] = past
replay_after past (call ∷ calls) = replay_after (due_member past call ∷ past) calls

-- the history of the calls, each with its one reply
abbrev pub replay_of : List Call → List PoolEntry
replay_of calls = reverse (replay_after [] calls)

-- ---- legal histories

-- each member has the reply of the entries of its pool before it, or the device failed, later than at any member before it
abbrev pub IsLegalPast : List PoolEntry → Type 0
IsLegalPast [] = Unit {0}
IsLegalPast (m ∷ past) = IsReply (last_count (entries_of past)) (due_of_past past (call_of m)) m.entry.reply × IsLegalPast past

-- the same of a history in order of time
abbrev pub IsLegal : List PoolEntry → Type 0
IsLegal history = IsLegalPast (reverse history)

-- the member may stand next: its reply is the one that is due in its pool, or the device failed
abbrev pub MayFollow : List PoolEntry → PoolEntry → Type 0
MayFollow history m = IsReply (last_count (entries_of (reverse history))) (due_reply history (call_of m)) m.entry.reply

-- each field of each act is in its range
abbrev pub AreValid : List PoolEntry → Type 0
AreValid history = one.AreValidEntries (entries_of history)
