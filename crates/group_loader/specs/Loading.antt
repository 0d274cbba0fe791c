-- What a load keeps of its journal and its books.
use Rattle.std.specs.Prelude.{◌≡◌, ◌+◌, ◌≤◌, ℕ, true, List, [], ◌∷◌, ◌++◌, length, take, drop, All, IsTrue}
use Rattle.limited_book.specs.setoff_model.specs.declared.limits.TheConstants.{MOST_JOURNAL_BYTES}
use Rattle.disk_model.specs.Calls.{Seen, IsPresent, Passes}
use Rattle.claim_history.specs.declared.call.Call.{Call}
use Rattle.claim_history.specs.declared.call.PoolEntry.{PoolEntry}
use Rattle.claim_history.specs.PoolNeeds.{call_bytes, used_bytes_of}
use Rattle.claim_history.specs.Pools.{accepted_calls, call_of}
use Rattle.limited_book.specs.claim_book.specs.Pools.{BooksView}
use Rattle.act_bodies.specs.Bodies.{body_of, is_keepable}
use Rattle.round_journal.specs.Bytes.{Header}
use Rattle.round_journal.specs.Kept.{JournalView, IsGroup, IsKept}
use Rattle.round_journal.specs.Records.{bodies_of_calls}
use Rattle.limited_book.specs.Limited.{IsFull}
use Rattle.group_loader.specs.declared.loader.LoadError.{LoadError}
use Rattle.group_loader.specs.declared.loader.LoadError.TheVariants.{Memory, Full}
use Rattle.group_loader.specs.Groups.{HasGroupMoments, StandsForCalls, StandsForWhole, joined}

-- What is seen of a load: its journal and its books; the records of the group that gathers; and the number of the members whose calls
-- are kept.
pub record LoadView (D : Type 0) : Type 0 where
  pub journal : JournalView D
  pub books : BooksView
  pub group : List ℕ
  pub kept : ℕ

-- the accepted calls that are kept, and those of the group that gathers
abbrev pub kept_calls : {D : Type 0} → LoadView D → List Call
kept_calls v = accepted_calls (take v.kept v.books.members)

abbrev pub pending_calls : {D : Type 0} → LoadView D → List Call
pending_calls v = accepted_calls (drop v.kept v.books.members)

-- the journal keeps these calls, and none was tried behind them
abbrev pub KeepsCalls : {D : Type 0} → (D → Seen) → JournalView D → List Call → Type 0
KeepsCalls seen journal calls = (h : Header) × IsKept seen journal h (bodies_of_calls calls) []

-- What holds of a load.
pub record Loads {D : Type 0} (seen : D → Seen) (v : LoadView D) : Type 0 where
  pub few : v.kept ≤ length v.books.members
  -- the journal will have as many bytes as the history uses, which are within the limit
  pub place : v.journal.gate + 1 + length v.group ≡ used_bytes_of v.books.members
  pub near : used_bytes_of v.books.members ≤ MOST_JOURNAL_BYTES
  -- each call can be kept
  pub keepable : All (λ m. is_keepable (call_of m) ≡ true) v.books.members
  -- the group has the records of the accepted calls that are not kept yet
  pub group : IsGroup (bodies_of_calls (pending_calls v)) v.group
  -- the others are kept, group by group
  pub kept : IsTrue (seen v.journal.disk).tells → KeepsCalls seen v.journal (kept_calls v)

-- whatever groups a load has kept since a moment, they have their moments, and a group that is tried goes on from there
abbrev pub GoesOnBy : Seen → Seen → List Call → (List (List Call) → List (List Call)) → List Call → Type 0
GoesOnBy old new kept more tried = (started : ℕ) (base : List Call) (groups : List (List Call)) → kept ≡ base ++ joined groups
    → HasGroupMoments old started base groups [] → HasGroupMoments new started base (more groups) tried

-- The group was kept: no image since the start of the keeping has a part of it, each present one has all of it, and it is one group
-- more. Where it has no call the disk was not called.
pub record HasKept {D : Type 0} (seen : D → Seen) (old new : D) (kept pending : List Call) : Type 0 where
  pub during : IsTrue (seen old).tells → Passes (seen old) (seen new) (StandsForWhole kept pending)
  pub stands : IsTrue (seen old).tells → (c : List ℕ) → IsPresent (seen new) c → StandsForCalls c (kept ++ pending)
  pub grows : IsTrue (seen old).tells → GoesOnBy (seen old) (seen new) kept (λ groups. groups ++ pending ∷ []) []
  pub quiet : pending ≡ [] → new ≡ old
  pub tells : (seen new).tells ≡ (seen old).tells
  pub later : (seen old).count ≤ (seen new).count

-- The disk failed, which ends the load: no image has a part of the group, and the last may have all of it. The group has a call.
pub record HasStopped {D : Type 0} (seen : D → Seen) (old new : D) (kept pending : List Call) : Type 0 where
  pub during : IsTrue (seen old).tells → Passes (seen old) (seen new) (StandsForWhole kept pending)
  pub stands : IsTrue (seen old).tells → (c : List ℕ) → IsPresent (seen new) c → StandsForWhole kept pending c
  pub tried : IsTrue (seen old).tells → GoesOnBy (seen old) (seen new) kept (λ groups. groups) pending
  pub some : pending ≡ [] → ⊥
  pub tells : (seen new).tells ≡ (seen old).tells

-- why a call has no entry: there was no memory, or it is full as is told
abbrev pub IsLoadError : List PoolEntry → Call → LoadError → Type 0
IsLoadError history call Memory = Unit {0}
IsLoadError history call (Full full) = IsFull history call full

-- What is left where a call has no entry. Where there was no memory, some of the room for it may have been made. Where it is full, all
-- is as it was: no room was made for it, and no book for its pool.
abbrev pub IsLeftBy : {D : Type 0} → LoadView D → LoadView D → LoadError → Type 0
IsLeftBy old new Memory = (new.books.members ≡ old.books.members) × (new.group ≡ old.group)
IsLeftBy old new (Full full) = new ≡ old

-- the record of the call is put at the end of the group
pub record Holding (old new : List ℕ) (call : Call) : Type 0 where
  pub group : (bodies : List (List ℕ)) → IsGroup bodies old → IsGroup (bodies ++ body_of call ∷ []) new
  pub long : length new ≡ length old + call_bytes call
