-- When each status of a load comes.
use Rattle.std.specs.Prelude.{◌≡◌, ◌≢◌, ℕ, List, [], ◌∷◌, Option, Some, IsTrue}
use Rattle.disk_model.specs.Calls.{Seen}
use Rattle.request_text.specs.declared.request.Request.{Request}
use Rattle.load_reading.specs.Reading.{IsLoadText, IsNoLoadText}
use Rattle.journal_texts.specs.printed_text.specs.declared.exit_status.ExitStatus.{ExitStatus}
use Rattle.journal_texts.specs.printed_text.specs.declared.exit_status.ExitStatus.TheVariants as statuses
use Rattle.journal_texts.specs.printed_text.specs.Statuses.{IsOneOf}
use Rattle.journal_texts.specs.Calls.{IsTooLong, IsWholeInput, OfTold}
use Rattle.journal_texts.specs.Journals.{HoldsUnsound}
use Rattle.load_command.specs.Headline.{IsLoadHeadline, Taking}

-- ---- causes

-- it is in the grammar
abbrev pub IsInForm : List ℕ → Type 0
IsInForm input = (batches : List (List Request)) × IsLoadText input batches

-- the batches of the input were loaded, and some line was full
pub record LoadHadFullLine {D : Type 0} (seen : D → Seen) (Taken : Taking) (old new : D) (input : List ℕ) : Type 0 where
  pub batches : List (List Request)
  pub spelled : IsLoadText input batches
  pub text : List ℕ
  pub loaded : IsLoadHeadline seen Taken old new batches statuses.Limit text

-- ---- statuses

-- Where each cause is, its status comes, or that of a fault: of the source, of the disk, out of memory, or of the sink.
pub record LoadComesWhere (words : List (List ℕ)) (left : Option (List ℕ)) (disk : Seen) (status : ExitStatus) : Type 0 where
  -- any words
  pub of_words : words ≢ [] → IsOneOf (statuses.Words ∷ statuses.Sink ∷ []) status
  -- an input that is too long, or not in the grammar
  pub of_length : words ≡ [] → (input : List ℕ) → left ≡ Some input → IsTooLong input
      → IsOneOf (statuses.Limit ∷ statuses.Source ∷ statuses.Memory ∷ statuses.Sink ∷ []) status
  pub of_form : words ≡ [] → IsWholeInput IsNoLoadText left
      → IsOneOf (statuses.Form ∷ statuses.Source ∷ statuses.Memory ∷ statuses.Sink ∷ []) status
  -- a journal that is not sound
  pub of_opening : words ≡ [] → IsWholeInput IsInForm left → HoldsUnsound disk
      → IsOneOf (statuses.Unsound ∷ statuses.Source ∷ statuses.Disk ∷ statuses.Memory ∷ statuses.Sink ∷ []) status

-- Why a load without words ends with a status, as far as the source and the disk tell their bytes. That the source, the disk or the
-- sink failed, their counts tell.
pub data HasLoadStatusCause {D : Type 0} (seen : D → Seen) (Taken : Taking) (left : Option (List ℕ)) (old new : D) : ExitStatus
    → Type 0 where
  done : HasLoadStatusCause seen Taken left old new statuses.Done
  source_failed : HasLoadStatusCause seen Taken left old new statuses.Source
  sink_failed : HasLoadStatusCause seen Taken left old new statuses.Sink
  disk_failed : HasLoadStatusCause seen Taken left old new statuses.Disk
  out_of_form : OfTold IsNoLoadText left → HasLoadStatusCause seen Taken left old new statuses.Form
  too_long : OfTold IsTooLong left → HasLoadStatusCause seen Taken left old new statuses.Limit
  full_line : OfTold (LoadHadFullLine seen Taken old new) left → HasLoadStatusCause seen Taken left old new statuses.Limit
  not_opened : (IsTrue (seen old).tells → HoldsUnsound (seen old)) → HasLoadStatusCause seen Taken left old new statuses.Unsound
  no_memory : HasLoadStatusCause seen Taken left old new statuses.Memory

-- Each status comes only where its cause is: there were words, which was told or the sink failed; or a load was asked for.
pub data LoadComesOnly {D : Type 0} (seen : D → Seen) (Taken : Taking) (words : List (List ℕ)) (left : Option (List ℕ))
    (old new : D) : ExitStatus → Type 0 where
  some_words : words ≢ [] → (status : ExitStatus) → IsOneOf (statuses.Words ∷ statuses.Sink ∷ []) status
      → LoadComesOnly seen Taken words left old new status
  asked_for : words ≡ [] → (status : ExitStatus) → HasLoadStatusCause seen Taken left old new status
      → LoadComesOnly seen Taken words left old new status
