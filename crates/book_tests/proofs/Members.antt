-- What may stand next.
use Rattle.std.proofs.Common.{◌≡◌, List}
use Rattle.claim_history.specs.declared.call.PoolEntry.{PoolEntry}
use Rattle.claim_history.specs.History.{replied}
use Rattle.claim_history.specs.Pools.{MayFollow, call_of, due_reply}

-- a member with the one reply may stand next
pub due_follows : (history : List PoolEntry) (m : PoolEntry) → m.entry.reply ≡ due_reply history (call_of m) → MayFollow history m
due_follows history m is = replied is
