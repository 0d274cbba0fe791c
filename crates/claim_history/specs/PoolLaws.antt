-- What holds of every history of the bureau.
use Rattle.std.specs.Prelude.{◌≡◌, ℕ, false, List, [], ◌∷◌, ◌++◌, All, map, ◌↔◌}
use Rattle.claim_history.specs.declared.entry.Entry.{Entry}
use Rattle.claim_history.specs.declared.call.Call.{Call}
use Rattle.claim_history.specs.declared.call.PoolEntry.{PoolEntry}
use Rattle.claim_history.specs.States.{state_of}
use Rattle.claim_history.specs.History as one
use Rattle.claim_history.specs.Laws.{ByOthers, IsAcceptedClose, StaysOwned}
use Rattle.claim_history.specs.Pools.{AreValid, IsLegal, MayFollow, entries_in, is_in, main_pool, member_of, replay_of, state_in}

-- the entries of each pool of a legal history are a legal history, so what holds of every legal history of entries holds of each
-- pool; and a member that may stand next is an entry that may stand next in its pool
pub record PoolsLaw : Type 0 where
  pub legal : (history : List PoolEntry) (pool : List ℕ) → IsLegal history → one.IsLegalPool (entries_in pool history)
  pub valid : (history : List PoolEntry) (pool : List ℕ) → AreValid history → one.AreValidEntries (entries_in pool history)
  pub next : (history : List PoolEntry) (m : PoolEntry) → MayFollow history m → one.MayFollowInPool (entries_in m.pool history) m.entry

-- a legal history with one more member that may stand next is legal; its entry stands in its own pool, and no other pool changes
pub record JoinLaw : Type 0 where
  pub legal : (history : List PoolEntry) (m : PoolEntry) → IsLegal history → MayFollow history m → IsLegal (history ++ m ∷ [])
  pub own : (history : List PoolEntry) (pool : List ℕ) (e : Entry)
      → entries_in pool (history ++ member_of pool e ∷ []) ≡ entries_in pool history ++ e ∷ []
  pub others : (history : List PoolEntry) (m : PoolEntry) (pool : List ℕ) → is_in pool m ≡ false
      → entries_in pool (history ++ m ∷ []) ≡ entries_in pool history

-- calls, replayed, are a legal history
abbrev pub ReplayLaw : Type 0
ReplayLaw = (calls : List Call) → IsLegal (replay_of calls)

-- a history of the pool MAIN alone is legal exactly where its entries are
pub record MainLaw : Type 0 where
  pub legal : (entries : List Entry) → IsLegal (map (member_of main_pool) entries) ↔ one.IsLegalPool entries
  pub same : (entries : List Entry) → entries_in main_pool (map (member_of main_pool) entries) ≡ entries

-- after an accepted CLOSE, while its caller and the bureau itself ask nothing in its pool, its round stays open with its cut,
-- whatever is asked in other pools
abbrev pub OwnedLaw : Type 0
OwnedLaw = (history : List PoolEntry) (pool : List ℕ) (before later : List Entry) (close : Entry) (caller : ℕ) → IsLegal history
    → entries_in pool history ≡ before ++ close ∷ later → IsAcceptedClose caller close → All (ByOthers caller) later
    → StaysOwned caller close (state_of (before ++ close ∷ [])) (state_in history pool)
