-- What a load ends with where no source, sink or disk fails.
use Rattle.std.specs.Prelude.{◌≡◌, ◌≢◌, ◌⊎◌, ℕ, List, [], Option}
use Rattle.disk_model.specs.Calls.{Seen}
use Rattle.request_text.specs.declared.request.Request.{Request}
use Rattle.load_reading.specs.Reading.{IsLoadText}
use Rattle.journal_texts.specs.bureau_desk.specs.fault_count.specs.Counts.{HasRisen}
use Rattle.journal_texts.specs.printed_text.specs.declared.exit_status.ExitStatus.{ExitStatus}
use Rattle.journal_texts.specs.printed_text.specs.declared.exit_status.ExitStatus.TheVariants as statuses
use Rattle.journal_texts.specs.Calls.{IsComplete, IsWholeInput}
use Rattle.journal_texts.specs.Journals.{HasRoomForAll, HoldsSound}
use Rattle.load_command.specs.Headline.{HasTakenFirst, IsLoadHeadline, Taking, requests_of}

-- the batches were loaded: each line was replied to, or a line was full and none without memory
abbrev pub IsAllLoaded : {D : Type 0} → (D → Seen) → Taking → D → D → List (List Request) → ExitStatus → List ℕ → Type 0
IsAllLoaded seen Taken old new batches status text = ((status ≡ statuses.Done) ⊎ (status ≡ statuses.Limit))
    × IsLoadHeadline seen Taken old new batches status text

-- So it is of a load where no fault was counted, over a sound journal.
pub record CompletesLoad {D : Type 0} (seen : D → Seen) (words : List (List ℕ)) (left : Option (List ℕ)) (old new : D)
    (held_old held_new : Option (List ℕ)) (ReadFault WriteFault : Type 0) (status : ExitStatus) : Type 0 where
  pub of_load : words ≡ [] → (batches : List (List Request)) → IsWholeInput (λ input. IsLoadText input batches) left
      → HoldsSound (seen old) → (ReadFault → ⊥) → (WriteFault → ⊥) → (HasRisen (seen old).count (seen new).count → ⊥)
      → IsComplete (IsAllLoaded seen (HasTakenFirst held_old held_new) old new batches) held_old held_new status
  -- where there is room for all requests behind the records, no line is full, whatever fails; so the status tells of none
  pub none_full : words ≡ [] → (batches : List (List Request)) → IsWholeInput (λ input. IsLoadText input batches) left
      → (holds : HoldsSound (seen old)) → HasRoomForAll holds.records (requests_of batches) → status ≢ statuses.Limit
