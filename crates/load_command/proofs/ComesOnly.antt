-- Each status comes only where its cause is.
use Rattle.std.specs.Prelude.{Option, Some}
use Rattle.std.specs.Io.KnownBytes.{Consumes}
use Rattle.std.proofs.Common.{◌≡◌, ◌∙◌, ◌⊎◌, ⊎_elim, inl, inr, ℕ, Bool, List, [], ◌∷◌, refl, subst, sym}
use Rattle.disk_model.specs.Calls.{Seen}
use Rattle.request_text.specs.declared.request.Request.{Request}
use Rattle.load_reading.specs.Reading.{IsLoadText, IsNoLoadText}
use Rattle.journal_texts.specs.bureau_desk.specs.fault_count.specs.Counts.{HasRisen}
use Rattle.journal_texts.specs.bureau_desk.specs.declared.desk_refused.DeskCause.{DeskCause}
use Rattle.journal_texts.specs.bureau_desk.specs.declared.desk_refused.DeskCause.TheVariants.{Memory, Device, BadHeader, BadRecord, BadAct, Overfull}
use Rattle.journal_texts.specs.bureau_desk.specs.Opening.{HasDeskCause}
use Rattle.journal_texts.specs.printed_text.specs.declared.exit_status.ExitStatus.{ExitStatus}
use Rattle.journal_texts.specs.printed_text.specs.declared.exit_status.ExitStatus.TheVariants as statuses
use Rattle.journal_texts.specs.printed_text.specs.Statuses.{IsOneOf}
use Rattle.journal_texts.specs.DiskTexts.{opening_status}
use Rattle.journal_texts.proofs.Openings.{unsound_fault}
use Rattle.journal_texts.proofs.Written.{told_one, told_status}
use Rattle.journal_texts.specs.Calls.{IsReadDue, input_read, no_input_memory, read_fault, too_long}
use Rattle.load_command.specs.Headline.{HasTakenFirst, IsLoadHeadline, Taking}
use Rattle.load_command.specs.Due.{IsLoadDue, loaded, no_output_memory, not_opened}
use Rattle.load_command.specs.Inputs.{IsLoadCallDue, IsInputDue, LoadRan, asked, bad_line, bad_words, batches_read, no_line_memory, no_request_memory, not_read}
use Rattle.load_command.specs.Causes.{LoadComesOnly, HasLoadStatusCause, asked_for, disk_failed, done, full_line, no_memory, not_opened as unopened, out_of_form, sink_failed, some_words, source_failed, too_long as longer}
use Rattle.load_command.proofs.Statuses.{headline_one, input_rose, load_statuses}
use Rattle.journal_texts.proofs.Inputs.{all_taken, taken_long}

module _ {D : Type 0} (seen : D → Seen) (Taken : Taking) (left : Option (List ℕ)) (old new : D) where
  abbrev Why : ExitStatus → Type 0
  Why status = HasLoadStatusCause seen Taken left old new status

  at : (n status : ExitStatus) → status ≡ n → Why n → Why status
  at n status is why = subst Why (sym is) why

  -- ---- a load

  opening_why : (low high : ℕ) (cause : DeskCause) → HasDeskCause (seen old).tells (seen old).reads low high cause → Why (opening_status cause)
  opening_why low high Memory h = no_memory
  opening_why low high (Device before after) h = disk_failed
  opening_why low high BadHeader h = unopened (λ told. unsound_fault (seen old) BadHeader told (subst (λ (b : Bool). HasDeskCause b (seen old).reads low high BadHeader) told h))
  opening_why low high (BadRecord offset why) h = unopened (λ told. unsound_fault (seen old) (BadRecord offset why) told (subst (λ (b : Bool). HasDeskCause b (seen old).reads 0 0 (BadRecord offset why)) told h))
  opening_why low high (BadAct offset got) h = unopened (λ told. unsound_fault (seen old) (BadAct offset got) told (subst (λ (b : Bool). HasDeskCause b (seen old).reads low high (BadAct offset got)) told h))
  opening_why low high (Overfull offset) h = unopened (λ told. unsound_fault (seen old) (Overfull offset) told (subst (λ (b : Bool). HasDeskCause b (seen old).reads low high (Overfull offset)) told h))

  -- what was read, which is what the source tells
  module _ (taken : List ℕ) (whole : (input : List ℕ) → left ≡ Some input → taken ≡ input) where
    headline_why : (batches : List (List Request)) → IsLoadText taken batches → (status : ExitStatus) (text : List ℕ) → IsLoadHeadline seen Taken old new batches status text → IsOneOf load_statuses status → Why status
    headline_why batches is status text h (inl e) = at statuses.Done status e done
    headline_why batches is status text h (inr (inl e)) = at statuses.Disk status e disk_failed
    headline_why batches is status text h (inr (inr (inl e))) = at statuses.Limit status e (full_line (λ input told. record {
      batches = batches;
      spelled = subst (λ (bytes : List ℕ). IsLoadText bytes batches) (whole input told) is;
      text = text;
      loaded = subst (λ (n : ExitStatus). IsLoadHeadline seen Taken old new batches n text) e h;
    }))
    headline_why batches is status text h (inr (inr (inr (inl e)))) = at statuses.Memory status e no_memory
    headline_why batches is status text h (inr (inr (inr (inr (inl e))))) = at statuses.Sink status e sink_failed
    headline_why batches is status text h (inr (inr (inr (inr (inr none))))) = absurd none

    load_why : (batches : List (List Request)) → IsLoadText taken batches → (status : ExitStatus) (text : List ℕ) → IsLoadDue seen Taken old new batches status text → Why status
    load_why batches is status text (no_output_memory same) = no_memory
    load_why batches is status text (not_opened cause refused) = opening_why (seen old).count (seen new).count cause refused.has
    load_why batches is status text (loaded s t h) = headline_why batches is s t h (headline_one seen Taken old new batches s t h)

    input_why : (status : ExitStatus) (text : List ℕ) → IsInputDue seen Taken old new taken status text → Why status
    input_why status text (no_request_memory same) = no_memory
    input_why status text (not_read same s t no_line_memory) = no_memory
    input_why status text (not_read same s t (bad_line line cause first none)) = out_of_form (λ input told. subst IsNoLoadText (whole input told) none)
    input_why status text (batches_read batches is s t due) = load_why batches is s t due

  -- ---- the reading

  module _ (left_new : Option (List ℕ)) where
    of_told : (taken : List ℕ) → Consumes left left_new taken → (input : List ℕ) → left ≡ Some input → Consumes (Some input) left_new taken
    of_told taken h input told = subst (λ (l : Option (List ℕ)). Consumes l left_new taken) told h

    pub read_why : (status : ExitStatus) (text : List ℕ) → IsReadDue (IsInputDue seen Taken old new) (new ≡ old) left left_new status text → Why status
    read_why status text (no_input_memory same) = no_memory
    read_why status text (read_fault same) = source_failed
    read_why status text (too_long same taken h many) = longer (λ input told. taken_long input taken left_new (of_told taken h input told) many)
    read_why status text (input_read taken all s t due) = input_why taken (λ input told. all_taken input taken left_new (of_told taken all.taken input told) all.at_end) s t due

    read_rose : (status : ExitStatus) (text : List ℕ) → IsReadDue (IsInputDue seen Taken old new) (new ≡ old) left left_new status text → status ≡ statuses.Disk → HasRisen (seen old).count (seen new).count
    read_rose status text (no_input_memory same) disk = cc
    read_rose status text (read_fault same) disk = cc
    read_rose status text (too_long same taken h many) disk = cc
    read_rose status text (input_read taken all s t due) disk = input_rose seen Taken old new taken s t due disk

-- ---- the words

module _ {S D : Type 0} (left : S → Option (List ℕ)) (seen : D → Seen) (words : List (List ℕ)) (source source' : S) (old new : D) (x y : Option (List ℕ)) (status : ExitStatus) where
  due_only : (due : ExitStatus) (text : List ℕ) → (status ≡ due) ⊎ (status ≡ statuses.Sink) → IsLoadCallDue left seen (HasTakenFirst x y) words source source' old new due text → LoadComesOnly seen (HasTakenFirst x y) words (left source) old new status
  due_only due text either (bad_words some same still) = some_words some status (told_one (statuses.Words ∷ []) statuses.Words status (inl refl) either)
  due_only due text either (asked none s t is) = asked_for none status (⊎_elim
      (λ same. subst (HasLoadStatusCause seen (HasTakenFirst x y) (left source) old new) (sym same) (read_why seen (HasTakenFirst x y) (left source) old new (left source') s t is))
      (λ sink. subst (HasLoadStatusCause seen (HasTakenFirst x y) (left source) old new) (sym sink) sink_failed)
      either)

  pub comes_only : LoadRan left seen words source source' old new x y status → LoadComesOnly seen (HasTakenFirst x y) words (left source) old new status
  comes_only ran = due_only ran.due ran.text (told_status x y ran.due ran.text status ran.is_written) ran.is_due

  due_rose : (due : ExitStatus) (text : List ℕ) → IsLoadCallDue left seen (HasTakenFirst x y) words source source' old new due text → due ≡ statuses.Disk → HasRisen (seen old).count (seen new).count
  due_rose due text (bad_words some same still) disk = cc
  due_rose due text (asked none s t is) disk = read_rose seen (HasTakenFirst x y) (left source) old new (left source') s t is disk

  pub ran_rose : LoadRan left seen words source source' old new x y status → status ≡ statuses.Disk → HasRisen (seen old).count (seen new).count
  ran_rose ran disk = ⊎_elim
      (λ is. due_rose ran.due ran.text ran.is_due (sym is ∙ disk))
      (λ sink. cc (sink, disk))
      (told_status x y ran.due ran.text status ran.is_written)
