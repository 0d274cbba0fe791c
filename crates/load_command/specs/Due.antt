-- What is due for the batches of a load.
use Rattle.std.specs.Prelude.{◌≡◌, ℕ, List, [], ◌∷◌, ◌++◌, codes, drop, take, Option, IsTrue}
use Rattle.std.specs.Io.KnownBytes.{Appends}
use Rattle.journal_texts.specs.bureau_desk.specs.disk_model.specs.Calls.{Seen}
use Rattle.journal_texts.specs.bureau_desk.specs.claim_history.specs.Pools.{accepted_calls}
use Rattle.journal_texts.specs.bureau_desk.specs.declared.desk_refused.DeskCause.{DeskCause}
use Rattle.journal_texts.specs.bureau_desk.specs.Desks.{DeskView}
use Rattle.journal_texts.specs.bureau_desk.specs.Opening.{IsDeskOpen, IsDeskRefused}
use Rattle.journal_texts.specs.printed_text.specs.request_text.specs.declared.request.Request.{Request}
use Rattle.journal_texts.specs.printed_text.specs.declared.exit_status.ExitStatus.{ExitStatus}
use Rattle.journal_texts.specs.printed_text.specs.declared.exit_status.ExitStatus.TheVariants as statuses
use Rattle.journal_texts.specs.printed_text.specs.Printing.{printed_of}
use Rattle.journal_texts.specs.printed_text.specs.Texts.{memory_text}
use Rattle.journal_texts.specs.printed_text.specs.Writing.{Wrote}
use Rattle.journal_texts.specs.DiskTexts.{opening_status, opening_text, told_counts}
use Rattle.group_runs.specs.disk_witness.specs.Shown.{Shown}
use Rattle.group_runs.specs.group_loader.specs.Groups.{HasGroupMoments}
use Rattle.group_runs.specs.group_loader.specs.Loading.{LoadView}
use Rattle.group_runs.specs.Runs.{IsAllKept, KeepsHistory}
use Rattle.load_command.specs.Headline.{HasTakenInOrder, IsLoadHeadline, Taking}

-- The status and the text that batches come to: there was no memory for their output; the disk was not opened; or they were loaded.
pub data IsLoadDue {D : Type 0} (seen : D → Seen) (Taken : Taking) (old new : D) (batches : List (List Request)) : ExitStatus
    → List ℕ → Type 0 where
  no_output_memory : new ≡ old → IsLoadDue seen Taken old new batches statuses.Memory memory_text
  not_opened : (cause : DeskCause) → IsDeskRefused (seen old) (seen new) cause
      → IsLoadDue seen Taken old new batches (opening_status cause) (opening_text cause)
  loaded : (status : ExitStatus) (text : List ℕ) → IsLoadHeadline seen Taken old new batches status text
      → IsLoadDue seen Taken old new batches status text

-- No group was served, whatever the batches: there was no memory for their output, the journal was not opened, or the sink failed at
-- the lines of the abandonments.
abbrev pub IsLoadNotBegunDue : {D : Type 0} → (D → Seen) → Taking → D → D → ExitStatus → List ℕ → Type 0
IsLoadNotBegunDue seen Taken old new status text = (batches : List (List Request)) → IsLoadDue seen Taken old new batches status text

-- the fault line of a disk that failed at a group, between these counts
abbrev pub device_text : ℕ → ℕ → List ℕ
device_text before after = told_counts (codes "fault device ") before after

-- it was due by what the sink has taken and what was shown, and was written
abbrev pub WroteInOrder : {D : Type 0} → (D → Seen) → D → (Taking → ExitStatus → List ℕ → Type 0) → Option (List ℕ) → Option (List ℕ)
    → List (Shown D) → List (Shown D) → ExitStatus → Type 0
WroteInOrder seen new IsTextDue held_old held_new shown_old shown_new status =
    Wrote (IsTextDue (HasTakenInOrder seen new held_old held_new shown_old shown_new)) held_old held_new status

-- a load was begun on a disk, after an opening that left so many members before the abandonments
pub record IsLoadBegun {D : Type 0} (seen : D → Seen) (old : D) (first : LoadView D) (from : ℕ) : Type 0 where
  pub desk : DeskView D
  pub opening : IsDeskOpen seen old desk
  pub from_is : from ≡ desk.opened_with
  pub history : first.books.members ≡ desk.history
  pub disk : first.journal.disk ≡ desk.disk
  pub all : IsAllKept first
  pub keeps : KeepsHistory first.books.members
  pub begins : IsTrue (seen first.journal.disk).tells
      → HasGroupMoments (seen first.journal.disk) (seen first.journal.disk).moment (accepted_calls first.books.members) [] []

-- then the sink and the disk were shown, and then the lines of the abandonments were printed
pub record HasLoadBegun {D : Type 0} (seen : D → Seen) (old : D) (first : LoadView D) (held_old held_new : Option (List ℕ))
    (shown_old shown_new : List (Shown D)) : Type 0 where
  pub from : ℕ
  pub opened : IsLoadBegun seen old first from
  pub shown : shown_new ≡ shown_old ++ (record { held = held_old; disk = first.journal.disk }) ∷ []
  pub printed : Appends held_old held_new (printed_of (take from first.books.members) (drop from first.books.members) [])
