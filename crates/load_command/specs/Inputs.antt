-- What is due for the words and the input of a load.
use Rattle.std.specs.Prelude.{◌≡◌, ◌≢◌, ℕ, List, [], Option}
use Rattle.disk_model.specs.Calls.{Seen}
use Rattle.request_text.specs.declared.error.LineCause.{LineCause}
use Rattle.request_text.specs.declared.request.Request.{Request}
use Rattle.load_reading.specs.Reading.{IsFirstBadLoadLine, IsLoadText, IsNoLoadText}
use Rattle.journal_texts.specs.printed_text.specs.declared.exit_status.ExitStatus.{ExitStatus}
use Rattle.journal_texts.specs.printed_text.specs.declared.exit_status.ExitStatus.TheVariants as statuses
use Rattle.journal_texts.specs.printed_text.specs.Texts.{bad_line_text, memory_text, words_text}
use Rattle.journal_texts.specs.printed_text.specs.Writing.{Wrote}
use Rattle.journal_texts.specs.Calls.{IsReadDue}
use Rattle.group_runs.specs.disk_witness.specs.Shown.{Shown}
use Rattle.load_command.specs.Headline.{HasTakenFirst, Taking}
use Rattle.load_command.specs.Due.{IsLoadDue, WroteInOrder}

-- ---- inputs

-- the status and the text that an input comes to that is not in the grammar: its first bad line, or there was no memory
pub data IsLoadBadLineDue (input : List ℕ) : ExitStatus → List ℕ → Type 0 where
  no_line_memory : IsLoadBadLineDue input statuses.Memory memory_text
  bad_line : (line : ℕ) (cause : LineCause) → IsFirstBadLoadLine input line cause → IsNoLoadText input
      → IsLoadBadLineDue input statuses.Form (bad_line_text line cause)

-- the status and the text that an input comes to
pub data IsInputDue {D : Type 0} (seen : D → Seen) (Taken : Taking) (old new : D) (input : List ℕ) : ExitStatus → List ℕ
    → Type 0 where
  no_request_memory : new ≡ old → IsInputDue seen Taken old new input statuses.Memory memory_text
  not_read : new ≡ old → (status : ExitStatus) (text : List ℕ) → IsLoadBadLineDue input status text
      → IsInputDue seen Taken old new input status text
  batches_read : (batches : List (List Request)) → IsLoadText input batches → (status : ExitStatus) (text : List ℕ)
      → IsLoadDue seen Taken old new batches status text → IsInputDue seen Taken old new input status text

-- ---- words

-- The status and the text that are due for the words, which are to be none: with any word nothing is read.
pub data IsLoadCallDue {S D : Type 0} (left : S → Option (List ℕ)) (seen : D → Seen) (Taken : Taking) (words : List (List ℕ))
    (source source' : S) (old new : D) : ExitStatus → List ℕ → Type 0 where
  bad_words : words ≢ [] → source' ≡ source → new ≡ old
      → IsLoadCallDue left seen Taken words source source' old new statuses.Words words_text
  asked : words ≡ [] → (status : ExitStatus) (text : List ℕ)
      → IsReadDue (IsInputDue seen Taken old new) (new ≡ old) (left source) (left source') status text
      → IsLoadCallDue left seen Taken words source source' old new status text

-- the whole call: what was due was written
abbrev pub LoadRan : {S D : Type 0} → (S → Option (List ℕ)) → (D → Seen) → List (List ℕ) → S → S → D → D → Option (List ℕ)
    → Option (List ℕ) → ExitStatus → Type 0
LoadRan left seen words source source' old new held_old held_new status =
    Wrote (IsLoadCallDue left seen (HasTakenFirst held_old held_new) words source source' old new) held_old held_new status

-- the same before a witness, who was shown sink and disk in order
abbrev pub LoadRanInOrder : {S D : Type 0} → (S → Option (List ℕ)) → (D → Seen) → List (List ℕ) → S → S → D → D → Option (List ℕ)
    → Option (List ℕ) → List (Shown D) → List (Shown D) → ExitStatus → Type 0
LoadRanInOrder left seen words source source' old new held_old held_new shown_old shown_new status =
    WroteInOrder seen new (λ Taken. IsLoadCallDue left seen Taken words source source' old new) held_old held_new shown_old shown_new status
