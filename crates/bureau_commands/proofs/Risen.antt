-- Where a status tells of the disk, its count rose.
use Rattle.std.specs.Prelude.{Option}
use Rattle.std.proofs.Common.{◌≡◌, ◌∙◌, ⊎_elim, ℕ, ◌≤◌, Bool, List, [], ◌∷◌, refl, subst, sym, arith}
use Rattle.live_runs.specs.fault_count.specs.Counts.{HasRisen}
use Rattle.live_runs.specs.fault_count.proofs.Rising.{risen_within}
use Rattle.disk_model.specs.Calls.{Seen}
use Rattle.live_runs.specs.claim_history.specs.Pools.{IsLegal}
use Rattle.request_text.specs.declared.request.Request.{Request}
use Rattle.live_runs.specs.recorded_book.specs.Devices.{AreBetween}
use Rattle.live_runs.specs.bureau_desk.specs.declared.desk_refused.DeskCause.{DeskCause}
use Rattle.live_runs.specs.bureau_desk.specs.declared.desk_refused.DeskCause.TheVariants.{Memory, Device, BadHeader, BadRecord, BadAct, Overfull}
use Rattle.live_runs.specs.bureau_desk.specs.Opening.{HasDeskCause}
use Rattle.live_runs.specs.served_lines.specs.Ends.{is_memory_end, is_full_end}
use Rattle.live_runs.specs.printed_text.specs.declared.exit_status.ExitStatus.{ExitStatus}
use Rattle.live_runs.specs.printed_text.specs.declared.exit_status.ExitStatus.TheVariants as statuses
use Rattle.live_runs.specs.printed_text.proofs.Statuses.{other_than}
use Rattle.command_words.specs.declared.command.Command.{Command}
use Rattle.command_words.specs.declared.command.Command.TheVariants as commands
use Rattle.bureau_reports.specs.DiskTexts.{opening_status}
use Rattle.bureau_reports.specs.Inputs.{IsInputDue}
use Rattle.bureau_reports.proofs.Verdicts.{input_one}
use Rattle.bureau_reports.proofs.Viewed.{due_rose}
use Rattle.bureau_reports.proofs.Written.{told_status}
use Rattle.live_runs.specs.live_reading.specs.declared.stop.Stop.{Stop}
use Rattle.live_runs.specs.live_reading.specs.declared.stop.Stop.TheVariants as stop
use Rattle.live_runs.specs.batch_runs.specs.Runs.{all_added, some_device, some_end}
use Rattle.live_runs.specs.batch_runs.proofs.Printed.{device_by}
use Rattle.live_runs.specs.batch_runs.proofs.Rising.{device_rose}
use Rattle.bureau_commands.specs.Calls.{IsReadDue, input_read, no_input_memory, read_fault, too_long}
use Rattle.bureau_commands.specs.Headline.{IsHeadline, Output}
use Rattle.bureau_commands.specs.Due.{IsBatchesDue, IsCommandDue, IsDue, IsLiveDue, IsLiveHeadline, IsRunDue, IsTrialDue, Ran, all_served, asked, bad_line, bad_words, batches_read, broken_off, no_line_memory, no_output_memory, no_request_memory, no_trial_memory, no_words_memory, not_begun, not_opened, not_read, served, stop_status, tried}

-- where no desk was opened
opening_rose : (tells : Bool) (bytes : List ℕ) (low high : ℕ) (cause : DeskCause) → HasDeskCause tells bytes low high cause → opening_status cause ≡ statuses.Disk → HasRisen low high
opening_rose tells bytes low high Memory h disk = cc
opening_rose tells bytes low high (Device before after) h disk = risen_within low before after high h.0 (subst (λ (n : ℕ). after ≤ n) h.1 (omega arith)) h.2
opening_rose tells bytes low high BadHeader h disk = cc
opening_rose tells bytes low high (BadRecord offset why) h disk = cc
opening_rose tells bytes low high (BadAct offset got) h disk = cc
opening_rose tells bytes low high (Overfull offset) h disk = cc

module _ {D : Type 0} (seen : D → Seen) (output : Output D) (old new : D) where
  -- an entry tells of a device
  headline_rose : (batches : List (List Request)) (status : ExitStatus) (text : List ℕ) → IsHeadline seen output old new batches status text → status ≡ statuses.Disk → HasRisen (seen old).count (seen new).count
  headline_rose batches status text h disk = ⊎_elim
      (λ all. device_rose (seen old).count (seen new).count h.begun (all_added h.done) (subst IsLegal h.is_history.parts h.legal) (subst (AreBetween (seen old).count (seen new).count) h.is_history.parts h.between)
      (device_by (some_end is_memory_end h.done) (some_device h.done) (some_end is_full_end h.done) (sym all.1 ∙ disk)))
      (λ sink. cc (sink, disk))
      h.all.ended

  batches_rose : (batches : List (List Request)) (status : ExitStatus) (text : List ℕ) → IsBatchesDue seen output old new batches status text → status ≡ statuses.Disk → HasRisen (seen old).count (seen new).count
  batches_rose batches status text (no_output_memory same) disk = cc
  batches_rose batches status text (not_opened cause refused) disk = opening_rose (seen old).tells (seen old).reads (seen old).count (seen new).count cause refused.has disk
  batches_rose batches status text (served s t h) disk = headline_rose batches s t h disk

  run_rose : (input : List ℕ) (status : ExitStatus) (text : List ℕ) → IsRunDue seen output old new input status text → status ≡ statuses.Disk → HasRisen (seen old).count (seen new).count
  run_rose input status text (no_request_memory same) disk = cc
  run_rose input status text (not_read same s t no_line_memory) disk = cc
  run_rose input status text (not_read same s t (bad_line line cause first none)) disk = cc
  run_rose input status text (batches_read batches is s t due) disk = batches_rose batches s t due disk

-- of what is served while it is read, an opening or an entry tells of a device, and no end of the reading
module _ {S D : Type 0} (left : S → Option (List ℕ)) (seen : D → Seen) (output : Output D) (source source' : S) (old new : D) where
  stopped_rose : (why : Stop) (due : ExitStatus) (text : List ℕ) → IsLiveHeadline seen output (left source) (left source') old new why due text → stop_status why due ≡ statuses.Disk → HasRisen (seen old).count (seen new).count
  stopped_rose stop.Fence due text h disk = headline_rose seen output old new h.batches due text h.ran disk
  stopped_rose stop.End due text h disk = headline_rose seen output old new h.batches due text h.ran disk
  stopped_rose (stop.BadLine line cause) due text h disk = cc
  stopped_rose stop.Failed due text h disk = cc
  stopped_rose stop.TooLong due text h disk = cc
  stopped_rose stop.Memory due text h disk = cc

  live_rose : (status : ExitStatus) (text : List ℕ) → IsLiveDue left seen output source source' old new status text → status ≡ statuses.Disk → HasRisen (seen old).count (seen new).count
  live_rose status text (not_begun same s t some due) disk = batches_rose seen output old new [] s t due disk
  live_rose status text (broken_off why t h) disk = cc
  live_rose status text (all_served why due t some h apart at_end) disk = stopped_rose why due t h disk

trial_rose : (P : Type 0) (firms claims seed : ℕ) (status : ExitStatus) (text : List ℕ) → IsTrialDue firms claims seed status text → status ≡ statuses.Disk → P
trial_rose P firms claims seed status text no_trial_memory disk = cc
trial_rose P firms claims seed status text (tried line is) disk = cc

-- what an input comes to
read_rose : (P : Type 0) (Due : List ℕ → ExitStatus → List ℕ → Type 0) (Untouched : Type 0) (left left_new : Option (List ℕ)) → ((input : List ℕ) (status : ExitStatus) (text : List ℕ) → Due input status text → status ≡ statuses.Disk → P)
    → (status : ExitStatus) (text : List ℕ) → IsReadDue Due Untouched left left_new status text → status ≡ statuses.Disk → P
read_rose P Due Untouched left left_new rose status text (no_input_memory same) disk = cc
read_rose P Due Untouched left left_new rose status text (read_fault same) disk = cc
read_rose P Due Untouched left left_new rose status text (too_long same taken h long) disk = cc
read_rose P Due Untouched left left_new rose status text (input_read input all s t due) disk = rose input s t due disk

module _ {S D : Type 0} (left : S → Option (List ℕ)) (seen : D → Seen) (output : Output D) (source source' : S) (old new : D) where
  command_rose : (command : Command) (status : ExitStatus) (text : List ℕ) → IsCommandDue left seen output source source' old new command status text → status ≡ statuses.Disk → HasRisen (seen old).count (seen new).count
  command_rose commands.Run status text due disk = read_rose (HasRisen (seen old).count (seen new).count) (IsRunDue seen output old new) (new ≡ old) (left source) (left source') (run_rose seen output old new) status text due disk
  command_rose commands.Live status text due disk = live_rose left seen output source source' old new status text due disk
  command_rose (commands.OnInput report) status text due disk =
      read_rose (HasRisen (seen old).count (seen new).count) (IsInputDue report) (Unit {0}) (left source) (left source')
      (λ input s t told is. absurd (other_than statuses.Disk (statuses.Done ∷ statuses.No ∷ statuses.Form ∷ statuses.Memory ∷ []) s refl is (input_one report input s t told))) status text due.1 disk
  command_rose (commands.OnJournal report) status text due disk = due_rose report (seen old).tells (seen old).reads (seen old).count (seen new).count status text due.2 disk
  command_rose (commands.Trial firms claims seed) status text due disk = trial_rose (HasRisen (seen old).count (seen new).count) firms claims seed status text due.2 disk

  words_rose : (words : List (List ℕ)) (status : ExitStatus) (text : List ℕ) → IsDue left seen output words source source' old new status text → status ≡ statuses.Disk → HasRisen (seen old).count (seen new).count
  words_rose words status text (bad_words none same still) disk = cc
  words_rose words status text (no_words_memory same still) disk = cc
  words_rose words status text (asked command are s t due) disk = command_rose command s t due disk

pub ran_rose : {S D : Type 0} (left : S → Option (List ℕ)) (seen : D → Seen) (words : List (List ℕ)) (source source' : S) (old new : D) (output : Output D) (status : ExitStatus) → Ran left seen words source source' old new output status
    → status ≡ statuses.Disk → HasRisen (seen old).count (seen new).count
ran_rose left seen words source source' old new output status ran disk = ⊎_elim
    (λ is. words_rose left seen output source source' old new words ran.due ran.text ran.is_due (sym is ∙ disk))
    (λ sink. cc (sink, disk))
    (told_status output.held_old output.held_new ran.due ran.text status ran.is_written)
