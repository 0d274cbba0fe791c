-- What a journal holds, and the room behind it.
use Rattle.std.specs.Prelude.{◌≡◌, ℕ, ◌+◌, ◌*◌, ◌<◌, ◌≤◌, List, length, count_by, IsTrue}
use Rattle.std.specs.List.{sum_by}
use Rattle.setoff_model.specs.declared.limits.TheConstants.{MOST_ENTRIES, MOST_JOURNAL_BYTES}
use Rattle.bureau_desk.specs.disk_model.specs.Calls.{Seen}
use Rattle.printed_text.specs.claim_history.specs.Acts.{is_filing, is_registration}
use Rattle.printed_text.specs.claim_history.specs.PoolNeeds.{call_bytes}
use Rattle.printed_text.specs.claim_history.specs.PoolRounds.{left_open}
use Rattle.printed_text.specs.request_text.specs.declared.request.Request.{Request}
use Rattle.bureau_desk.specs.round_journal.specs.declared.record.Record.{Record}
use Rattle.bureau_desk.specs.round_journal.specs.Opened.{AreFound}
use Rattle.bureau_desk.specs.journal_replay.specs.Replays.{AreSound, history_of, recorded_call}
use Rattle.printed_text.specs.declared.exit_status.ExitStatus.{ExitStatus}
use Rattle.printed_text.specs.served_lines.specs.Bound.{closes, most_endings}
use Rattle.bureau_desk.specs.declared.desk_refused.DeskCause.{DeskCause}
use Rattle.bureau_desk.specs.Laws.{IsFault}
use Rattle.journal_texts.specs.DiskTexts.{unsound_status}

-- the disk tells its bytes, and they stand for sound records
pub record HoldsSound (disk : Seen) : Type 0 where
  pub tells : IsTrue disk.tells
  pub records : List Record
  pub found : AreFound disk.tells disk.reads records
  pub sound : AreSound records

-- the disk tells its bytes, which are more than nine and stand for no sound records
pub record HoldsUnsound (disk : Seen) : Type 0 where
  pub tells : IsTrue disk.tells
  pub long : 9 < length disk.reads
  pub none : (records : List Record) → AreFound disk.tells disk.reads records → AreSound records → ⊥

-- the bytes have a fault that an audit tells with this status: `No` where an act is refused or full, else `Unsound`
pub record HasAuditFault (bytes : List ℕ) (status : ExitStatus) : Type 0 where
  pub cause : DeskCause
  pub fault : IsFault bytes cause
  pub status_is : status ≡ unsound_status cause

-- ---- the bound under which no line is full

-- the bytes of a journal of these records: 8 at its head, and theirs
abbrev pub journal_bytes : List Record → ℕ
journal_bytes records = 8 + sum_by (λ r. call_bytes (recorded_call r)) records

-- how many rounds they leave open, of all pools
abbrev pub rounds_left : List Record → ℕ
rounds_left records = length (left_open (history_of records))

-- how many records and requests file a claim
abbrev pub claims_asked : List Record → List Request → ℕ
claims_asked records requests = count_by (λ r. is_filing r.act) records + count_by (λ request. is_filing request.act) requests

-- how many register a firm
abbrev pub firms_asked : List Record → List Request → ℕ
firms_asked records requests = count_by (λ r. is_registration r.act) records + count_by (λ request. is_registration request.act) requests

-- Behind the records there is room for all of the requests. Of entries: one for each, two for both endings of the round of each
-- Close, one for each abandonment at the opening, and three. Of bytes: 28 for each of these abandonments, 100 for each request,
-- and both endings of a round of all claims and firms for each Close and once more, in a pool with a name of 16 bytes.
pub record HasRoomForAll (records : List Record) (requests : List Request) : Type 0 where
  pub entries : length records + rounds_left records + length requests + 2 * closes requests + 3 ≤ MOST_ENTRIES
  pub bytes : journal_bytes records + 28 * rounds_left records + 100 * length requests + most_endings (claims_asked records requests)
      (firms_asked records requests) * (closes requests + 1) ≤ MOST_JOURNAL_BYTES
