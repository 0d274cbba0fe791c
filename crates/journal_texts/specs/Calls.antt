-- What whole calls have in common that read an input: when it is read, and what is due where it is not.
use Rattle.std.specs.Prelude.{◌≡◌, ◌+◌, ◌<◌, ◌≤◌, ℕ, List, length, Option, Some}
use Rattle.std.specs.Io.KnownBytes.{Appends, Consumes}
use Rattle.setoff_model.specs.declared.limits.TheConstants.{MOST_INPUT_BYTES}
use Rattle.bureau_edge.specs.declared.whole.ReadEnd.{ReadEnd}
use Rattle.bureau_edge.specs.declared.whole.ReadEnd.TheVariants as ends
use Rattle.bureau_edge.specs.Streams.{TakesAll}
use Rattle.printed_text.specs.declared.exit_status.ExitStatus.{ExitStatus}
use Rattle.printed_text.specs.declared.exit_status.ExitStatus.TheVariants as statuses
use Rattle.printed_text.specs.Texts.{memory_text, read_text, too_long_text}
use Rattle.printed_text.specs.Writing.{IsWritten}

-- ---- what a source tells

-- the source has an input of at most 2^26 bytes, of which this holds
pub record IsWholeInput (Holds : List ℕ → Type 0) (left : Option (List ℕ)) : Type 0 where
  pub input : List ℕ
  pub told : left ≡ Some input
  pub within : length input ≤ MOST_INPUT_BYTES
  pub holds : Holds input

-- what holds of the bytes of a source, where it tells them
abbrev pub OfTold : (List ℕ → Type 0) → Option (List ℕ) → Type 0
OfTold Holds left = (input : List ℕ) → left ≡ Some input → Holds input

-- the input has more than 2^26 bytes
abbrev pub IsTooLong : List ℕ → Type 0
IsTooLong input = MOST_INPUT_BYTES < length input

-- ---- the reading

-- The status and the text that are due after the reading of an input: a fault of the reading, which leaves the disk, or what the
-- input comes to.
pub data IsReadDue (IsInputDue : List ℕ → ExitStatus → List ℕ → Type 0) (Untouched : Type 0)
    (left_old left_new : Option (List ℕ)) : ExitStatus → List ℕ → Type 0 where
  no_input_memory : Untouched → IsReadDue IsInputDue Untouched left_old left_new statuses.Memory memory_text
  read_fault : Untouched → IsReadDue IsInputDue Untouched left_old left_new statuses.Source read_text
  too_long : Untouched → (taken : List ℕ) → Consumes left_old left_new taken → length taken ≡ MOST_INPUT_BYTES + 1
      → IsReadDue IsInputDue Untouched left_old left_new statuses.Limit too_long_text
  input_read : (input : List ℕ) → TakesAll MOST_INPUT_BYTES left_old left_new input → (status : ExitStatus) (text : List ℕ)
      → IsInputDue input status text → IsReadDue IsInputDue Untouched left_old left_new status text

-- why an input was not read, as it was told
abbrev pub IsToldUnread : ReadEnd → Option (List ℕ) → Option (List ℕ) → ExitStatus → Type 0
IsToldUnread ends.Memory held_old held_new status = IsWritten held_old held_new statuses.Memory memory_text status
IsToldUnread ends.Failed held_old held_new status = IsWritten held_old held_new statuses.Source read_text status
IsToldUnread ends.TooLong held_old held_new status = IsWritten held_old held_new statuses.Limit too_long_text status

-- ---- the ends of a call

-- the status and the text that are due where there was no memory for the words
pub data IsMemoryDue : ExitStatus → List ℕ → Type 0 where
  no_word_memory : IsMemoryDue statuses.Memory memory_text

-- it was done, and the sink took its whole text; or memory was missing
pub data IsComplete (IsDone : ExitStatus → List ℕ → Type 0) (held_old held_new : Option (List ℕ)) : ExitStatus → Type 0 where
  all_written : (status : ExitStatus) (text : List ℕ) → IsDone status text → Appends held_old held_new text
      → IsComplete IsDone held_old held_new status
  no_memory : IsComplete IsDone held_old held_new statuses.Memory
