-- What the record of a desk's calls on its disk keeps of a history.
use Rattle.std.specs.Prelude.{◌≡◌, ◌≤◌, ◌+◌, ℕ, List, [], ◌∷◌, length, reverse, IsTrue}
use Rattle.round_journal.specs.disk_model.specs.Calls.{Seen, GoesOn}
use Rattle.limited_book.specs.claim_history.specs.declared.call.Call.{Call}
use Rattle.limited_book.specs.claim_history.specs.declared.call.PoolEntry.{PoolEntry}
use Rattle.limited_book.specs.claim_history.specs.History.{last_count}
use Rattle.limited_book.specs.claim_history.specs.PoolNeeds.{used_bytes_of}
use Rattle.limited_book.specs.claim_history.specs.Pools.{accepted_calls, entries_of}
use Rattle.limited_book.specs.act_bodies.specs.Bodies.{body_of}
use Rattle.round_journal.specs.Bytes.{Header}
use Rattle.round_journal.specs.Kept.{JournalView, IsKept}
use Rattle.recorded_book.specs.Calls.{bodies_of_calls, CanBeKept, TriedLast}
use Rattle.recorded_book.specs.Moments.{HasMoments, HeldSince}
use Rattle.recorded_book.specs.Devices.{AreBetween}

-- What is seen of a recorder: its journal; how many bytes of a body there is memory for; the disk at the end of the opening,
-- and the number of members that were opened; and the same of the last clearing.
pub record RecorderView (D : Type 0) : Type 0 where
  pub journal : JournalView D
  pub spare : ℕ
  pub at_opening_end : D
  pub opened_with : ℕ
  pub at_clearing : D
  pub cleared_with : ℕ

-- what was tried last is the body of one member that tells of a device, after which none was accepted
abbrev pub IsTried : List PoolEntry → List (List ℕ) → Type 0
IsTried history [] = Unit {0}
IsTried history (body ∷ more) = (tried : Call) × TriedLast history tried × (body ∷ more ≡ body_of tried ∷ [])

-- the journal keeps the bodies of the accepted calls, and perhaps one that was tried last
abbrev pub KeepsAccepted : {D : Type 0} → (D → Seen) → JournalView D → List PoolEntry → Type 0
KeepsAccepted seen journal history =
    (last : List (List ℕ)) × (h : Header) × IsKept seen journal h (bodies_of_calls (accepted_calls history)) last
    × IsTried history last

-- What holds of its bytes: they are kept, and each image of each moment since the opening holds what was accepted by then. The
-- images of the opening stay, and those of the last clearing.
pub record IsRecorded {D : Type 0} (seen : D → Seen) (r : RecorderView D) (history : List PoolEntry) : Type 0 where
  pub kept : KeepsAccepted seen r.journal history
  pub moments : HasMoments (seen r.journal.disk) (seen r.journal.at_first_sync).moment r.opened_with history
  pub since : HeldSince (seen r.at_clearing).moment r.cleared_with (seen r.journal.disk) history
  pub stays : GoesOn (seen r.at_opening_end) (seen r.journal.disk)
  pub stays_cleared : GoesOn (seen r.at_clearing) (seen r.journal.disk)

-- What a recorder keeps of a history, of whose bytes it speaks where the disk tells them.
pub record Records {D : Type 0} (seen : D → Seen) (r : RecorderView D) (history : List PoolEntry) : Type 0 where
  -- the journal has as many bytes as the history uses
  pub place : r.journal.gate + 1 ≡ used_bytes_of history
  -- the members that were opened, and those at the last clearing, are among those of the history
  pub opened_few : r.opened_with ≤ length history
  pub cleared_few : r.cleared_with ≤ length history
  -- each of its calls can be kept
  pub keepable : CanBeKept history
  -- no member tells of a count above the present one
  pub counted : last_count (entries_of (reverse history)) ≤ (seen r.journal.disk).count
  -- since the end of the opening the disk tells its bytes as then, and its count has not fallen
  pub same : (seen r.journal.disk).tells ≡ (seen r.at_opening_end).tells
  pub later : (seen r.at_opening_end).count ≤ (seen r.journal.disk).count
  -- each member that tells of a device has its counts between those two
  pub between : AreBetween (seen r.at_opening_end).count (seen r.journal.disk).count history
  -- its bytes
  pub recorded : IsTrue (seen r.journal.disk).tells → IsRecorded seen r history
