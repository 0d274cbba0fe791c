-- What is told of a disk: why no desk was opened on it, and what an audit finds.
use Rattle.std.specs.Prelude.{ℕ, List, ◌++◌, length, count_by, codes, decimal}
use Rattle.printed_text.specs.claim_history.specs.declared.call.PoolEntry.{PoolEntry}
use Rattle.printed_text.specs.claim_history.specs.Acts.{is_publication}
use Rattle.printed_text.specs.claim_history.specs.Laws.{IsReplyInRange}
use Rattle.printed_text.specs.entry_text.specs.Entries.{reply_text}
use Rattle.printed_text.specs.declared.exit_status.ExitStatus.{ExitStatus}
use Rattle.printed_text.specs.declared.exit_status.ExitStatus.TheVariants as statuses
use Rattle.printed_text.specs.Texts.{memory_text}
use Rattle.bureau_desk.specs.round_journal.specs.declared.cause.RecordWhy.{RecordWhy}
use Rattle.bureau_desk.specs.round_journal.specs.declared.cause.RecordWhy.TheVariants.{Short, Body}
use Rattle.bureau_desk.specs.declared.desk_refused.DeskCause.{DeskCause}
use Rattle.bureau_desk.specs.declared.desk_refused.DeskCause.TheVariants.{Memory, Device, BadRecord, BadAct, Overfull}

-- ---- journals that are not sound

-- where the fault of a journal is
abbrev pub offset_of : DeskCause → ℕ
offset_of (BadRecord offset why) = offset
offset_of (BadAct offset got) = offset
offset_of (Overfull offset) = offset
offset_of _ = 0

abbrev pub record_why : RecordWhy → List ℕ
record_why Short = codes "short"
record_why Body = codes "body"

-- what it is
abbrev pub fault_of : DeskCause → List ℕ
fault_of (BadRecord offset why) = record_why why
fault_of (BadAct offset got) = reply_text got
fault_of (Overfull offset) = codes "full"
fault_of _ = codes "header"

-- both, after a word
abbrev pub told_fault : List ℕ → DeskCause → List ℕ
told_fault word cause = word ++ decimal (offset_of cause) ++ codes " " ++ fault_of cause ++ codes "\n"

-- ---- openings

-- two counts after a word
abbrev pub told_counts : List ℕ → ℕ → ℕ → List ℕ
told_counts word before after = word ++ decimal before ++ codes " " ++ decimal after ++ codes "\n"

-- the fault line of a disk on which no desk was opened
abbrev pub opening_text : DeskCause → List ℕ
opening_text Memory = memory_text
opening_text (Device before after) = told_counts (codes "fault device ") before after
opening_text cause = told_fault (codes "fault journal ") cause

abbrev pub opening_status : DeskCause → ExitStatus
opening_status Memory = statuses.Memory
opening_status (Device before after) = statuses.Disk
opening_status _ = statuses.Unsound

-- ---- audits

-- how many acts the history of a sound journal has, of all pools, and how many of them publish a round
abbrev pub sound_text : List PoolEntry → List ℕ
sound_text history = codes "yes acts " ++ decimal (length history) ++ codes " rounds "
    ++ decimal (count_by (λ m. is_publication m.entry.act) history) ++ codes "\n"

-- its first act that is refused or full; or why it was not read, as at an opening
abbrev pub unsound_text : DeskCause → List ℕ
unsound_text (BadAct offset got) = told_fault (codes "no ") (BadAct offset got)
unsound_text (Overfull offset) = told_fault (codes "no ") (Overfull offset)
unsound_text cause = opening_text cause

abbrev pub unsound_status : DeskCause → ExitStatus
unsound_status (BadAct offset got) = statuses.No
unsound_status (Overfull offset) = statuses.No
unsound_status cause = opening_status cause

-- the numbers of a reply that is told are in range
abbrev pub IsTellable : DeskCause → Type 0
IsTellable (BadAct offset got) = IsReplyInRange got
IsTellable _ = Unit {0}
