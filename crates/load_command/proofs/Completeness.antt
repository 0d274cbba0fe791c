-- Without a fault the whole text is written, or memory is missing.
use Rattle.std.specs.Prelude.{Option, Some}
use Rattle.std.proofs.Common.{◌≡◌, ◌⊎◌, ⊎_elim, inl, inr, ℕ, ◌≤◌, Bool, true, false, true≢false, List, [], ◌∙◌, length, arith, refl, subst, sym}
use Rattle.setoff_model.specs.declared.limits.TheConstants.{MOST_INPUT_BYTES}
use Rattle.disk_model.specs.Calls.{Seen}
use Rattle.request_text.specs.declared.request.Request.{Request}
use Rattle.request_text.proofs.ReadBack.{read_back_law}
use Rattle.load_reading.specs.Reading.{IsLoadText}
use Rattle.journal_texts.specs.bureau_desk.specs.round_journal.specs.Opened.{AreFound, OneRecords}
use Rattle.journal_texts.specs.bureau_desk.specs.round_journal.specs.declared.record.Record.{Record}
use Rattle.journal_texts.specs.bureau_desk.specs.declared.desk_refused.DeskCause.{DeskCause}
use Rattle.journal_texts.specs.bureau_desk.specs.declared.desk_refused.DeskCause.TheVariants.{Memory, Device, BadHeader, BadRecord, BadAct, Overfull}
use Rattle.journal_texts.specs.bureau_desk.specs.Opening.{HasDeskCause}
use Rattle.journal_texts.specs.printed_text.specs.served_lines.specs.Ends.{is_full_end, is_memory_end}
use Rattle.journal_texts.specs.printed_text.specs.served_lines.specs.Served.{Line}
use Rattle.journal_texts.specs.printed_text.specs.declared.exit_status.ExitStatus.{ExitStatus}
use Rattle.journal_texts.specs.printed_text.specs.declared.exit_status.ExitStatus.TheVariants as statuses
use Rattle.journal_texts.specs.printed_text.specs.Writing.{IsWritten, broken, whole}
use Rattle.journal_texts.specs.DiskTexts.{opening_status}
use Rattle.journal_texts.specs.Journals.{HasRoomForAll, HoldsSound}
use Rattle.journal_texts.proofs.Openings.{no_fault}
use Rattle.group_runs.specs.Runs.{load_status, some_end}
use Rattle.journal_texts.specs.Calls.{IsComplete, IsReadDue, IsWholeInput, all_written, input_read, no_input_memory, no_memory, read_fault, too_long}
use Rattle.load_command.specs.Headline.{HasTakenFirst, IsLoadHeadline, LoadEnd, Taking, all_kept, disk_failed, requests_of, sink_failed}
use Rattle.load_command.specs.Due.{IsLoadDue, loaded, no_output_memory, not_opened}
use Rattle.load_command.specs.Inputs.{IsInputDue, LoadRan, bad_line, batches_read, no_line_memory, no_request_memory, not_read}
use Rattle.load_command.specs.Completeness.{CompletesLoad, IsAllLoaded}
use Rattle.load_command.proofs.ComesOnly.{ran_rose}
use Rattle.load_command.proofs.ComesWhere.{asked_due}
use Rattle.journal_texts.proofs.Inputs.{all_taken, taken_long}

-- a source, a sink or a disk failed
abbrev Failed : ExitStatus → Type 0
Failed status = (status ≡ statuses.Source) ⊎ ((status ≡ statuses.Sink) ⊎ (status ≡ statuses.Disk))

-- the status and the text that are due: of a failure, of running out of memory, or of what is done
abbrev Ends : (ExitStatus → List ℕ → Type 0) → ExitStatus → List ℕ → Type 0
Ends Done status text = Failed status ⊎ ((status ≡ statuses.Memory) ⊎ Done status text)

refused_ends : (Done : ExitStatus → List ℕ → Type 0) (disk : Seen) (low high : ℕ) → HoldsSound disk → (cause : DeskCause) → HasDeskCause disk.tells disk.reads low high cause → (text : List ℕ) → Ends Done (opening_status cause) text
refused_ends Done disk low high has Memory h text = inr (inl refl)
refused_ends Done disk low high has (Device before after) h text = inl (inr (inr refl))
refused_ends Done disk low high has BadHeader h text = absurd (no_fault disk has BadHeader (subst (λ (b : Bool). HasDeskCause b disk.reads low high BadHeader) has.tells h))
refused_ends Done disk low high has (BadRecord offset why) h text = absurd (no_fault disk has (BadRecord offset why) (subst (λ (b : Bool). HasDeskCause b disk.reads 0 0 (BadRecord offset why)) has.tells h))
refused_ends Done disk low high has (BadAct offset got) h text = absurd (no_fault disk has (BadAct offset got) (subst (λ (b : Bool). HasDeskCause b disk.reads low high (BadAct offset got)) has.tells h))
refused_ends Done disk low high has (Overfull offset) h text = absurd (no_fault disk has (Overfull offset) (subst (λ (b : Bool). HasDeskCause b disk.reads low high (Overfull offset)) has.tells h))

-- how a load ended
abbrev EndsSo : ExitStatus → Type 0
EndsSo status = Failed status ⊎ ((status ≡ statuses.Memory) ⊎ ((status ≡ statuses.Done) ⊎ (status ≡ statuses.Limit)))

kept_so : (memory full : Bool) → EndsSo (load_status memory full)
kept_so true full = inr (inl refl)
kept_so false true = inr (inr (inr refl))
kept_so false false = inr (inr (inl refl))

ended_so : (low high : ℕ) (requests : List (List Request)) (groups : List (List Line)) (tried : List Line) (status : ExitStatus) (told : List ℕ) → LoadEnd low high requests groups tried status told → EndsSo status
ended_so low high requests groups tried status told (all_kept is none) = kept_so (some_end is_memory_end groups) (some_end is_full_end groups)
ended_so low high requests groups tried status told (sink_failed rest is none) = inl (inr (inl refl))
ended_so low high requests groups tried status told (disk_failed rest before after is from to rose) = inl (inr (inr refl))

module _ {D : Type 0} (seen : D → Seen) (Taken : Taking) (old new : D) (batches : List (List Request)) where
  abbrev All : ExitStatus → List ℕ → Type 0
  All status text = IsAllLoaded seen Taken old new batches status text

  load_ends : HoldsSound (seen old) → (status : ExitStatus) (text : List ℕ) → IsLoadDue seen Taken old new batches status text → Ends All status text
  load_ends has status text (no_output_memory same) = inr (inl refl)
  load_ends has status text (not_opened cause refused) = refused_ends All (seen old) (seen old).count (seen new).count has cause refused.has text
  load_ends has status text (loaded s t h) = ⊎_elim
      (λ failed. inl failed)
      (λ other. ⊎_elim (λ memory. inr (inl memory)) (λ is. inr (inr (is, h))) other)
      (ended_so (seen old).count (seen new).count _ h.groups h.tried s h.told h.ended)

  input_ends : HoldsSound (seen old) → (input : List ℕ) → IsLoadText input batches → (status : ExitStatus) (text : List ℕ) → IsInputDue seen Taken old new input status text → Ends All status text
  input_ends has input spelled status text (no_request_memory same) = inr (inl refl)
  input_ends has input spelled status text (not_read same s t no_line_memory) = inr (inl refl)
  input_ends has input spelled status text (not_read same s t (bad_line line cause first none)) = absurd (none batches spelled)
  input_ends has input spelled status text (batches_read others is s t due) =
      load_ends has s t (subst (λ (bs : List (List Request)). IsLoadDue seen Taken old new bs s t) (read_back_law.only input others batches is.0 spelled.0) due)

  read_ends : HoldsSound (seen old) → (input : List ℕ) → length input ≤ MOST_INPUT_BYTES → IsLoadText input batches → (left_new : Option (List ℕ)) (status : ExitStatus) (text : List ℕ) → IsReadDue (IsInputDue seen Taken old new) (new ≡ old) (Some input) left_new status text
      → Ends All status text
  read_ends has input within spelled left_new status text (no_input_memory same) = inr (inl refl)
  read_ends has input within spelled left_new status text (read_fault same) = inl (inl refl)
  read_ends has input within spelled left_new status text (too_long same taken h many) = absurd (omega (arith, within, taken_long input taken left_new h many))
  read_ends has input within spelled left_new status text (input_read taken all s t due) =
      input_ends has input spelled s t (subst (λ (bytes : List ℕ). IsInputDue seen Taken old new bytes s t) (all_taken input taken left_new all.taken all.at_end) due)

  whole_ends : HoldsSound (seen old) → (left left_new : Option (List ℕ)) → IsWholeInput (λ input. IsLoadText input batches) left → (status : ExitStatus) (text : List ℕ) → IsReadDue (IsInputDue seen Taken old new) (new ≡ old) left left_new status text → Ends All status text
  whole_ends has left left_new input status text due =
      read_ends has input.input input.within input.holds left_new status text (subst (λ (l : Option (List ℕ)). IsReadDue (IsInputDue seen Taken old new) (new ≡ old) l left_new status text) input.told due)

-- what was written
written_ends : (Done : ExitStatus → List ℕ → Type 0) (x y : Option (List ℕ)) (due : ExitStatus) (text : List ℕ) (status : ExitStatus) → IsWritten x y due text status → Ends Done due text → (Failed status → ⊥) → IsComplete Done x y status
written_ends Done x y due text status (whole taken) (inl e) failed = absurd (failed e)
written_ends Done x y due text status (whole taken) (inr (inl e)) failed = subst (IsComplete Done x y) (sym e) no_memory
written_ends Done x y due text status (whole taken) (inr (inr done)) failed = all_written due text done taken
written_ends Done x y due text status (broken part) e failed = absurd (failed (inr (inl refl)))

-- ---- within the bound

limit_by : (memory full : Bool) → load_status memory full ≡ statuses.Limit → full ≡ true
limit_by true full is = cc
limit_by false true is = refl
limit_by false false is = cc

-- a line was full where the status tells of a limit
ended_full : (low high : ℕ) (requests : List (List Request)) (groups : List (List Line)) (tried : List Line) (status : ExitStatus) (told : List ℕ) → LoadEnd low high requests groups tried status told → status ≡ statuses.Limit → some_end is_full_end groups ≡ true
ended_full low high requests groups tried status told (all_kept is none) limit = limit_by (some_end is_memory_end groups) (some_end is_full_end groups) limit
ended_full low high requests groups tried status told (sink_failed rest is none) limit = cc
ended_full low high requests groups tried status told (disk_failed rest before after is from to rose) limit = cc

none_full_by : {D : Type 0} → OneRecords → (seen : D → Seen) (Taken : Taking) (old new : D) (batches : List (List Request)) (has : HoldsSound (seen old)) (text : List ℕ) → HasRoomForAll has.records (requests_of batches)
    → IsLoadHeadline seen Taken old new batches statuses.Limit text → ⊥
none_full_by one seen Taken old new batches has text room h =
    let same : has.records ≡ h.is_history.records =
    one (seen old).reads has.records h.is_history.records (subst (λ (b : Bool). AreFound b (seen old).reads has.records) has.tells has.found) (subst (λ (b : Bool). AreFound b (seen old).reads h.is_history.records) has.tells h.is_history.found) in
    true≢false (sym (ended_full (seen old).count (seen new).count _ h.groups h.tried statuses.Limit h.told h.ended refl) ∙ h.none_full (subst (λ (rs : List Record). HasRoomForAll rs (requests_of batches)) same room))

no_failure : (status : ExitStatus) → Failed status → status ≡ statuses.Limit → ⊥
no_failure status (inl e) limit = cc (e, limit)
no_failure status (inr (inl e)) limit = cc (e, limit)
no_failure status (inr (inr e)) limit = cc (e, limit)

-- full lines are told by a headline alone
limit_told : {D : Type 0} (seen : D → Seen) (Taken : Taking) (old new : D) (batches : List (List Request)) (x y : Option (List ℕ)) (due : ExitStatus) (text : List ℕ) (status : ExitStatus) → IsWritten x y due text status
    → Ends (IsAllLoaded seen Taken old new batches) due text → status ≡ statuses.Limit → IsLoadHeadline seen Taken old new batches statuses.Limit text
limit_told seen Taken old new batches x y due text status (whole taken) (inl failed) limit = absurd (no_failure due failed limit)
limit_told seen Taken old new batches x y due text status (whole taken) (inr (inl e)) limit = absurd (cc (e, limit))
limit_told seen Taken old new batches x y due text status (whole taken) (inr (inr done)) limit = subst (λ (s : ExitStatus). IsLoadHeadline seen Taken old new batches s text) limit done.1
limit_told seen Taken old new batches x y due text status (broken part) e limit = absurd (cc limit)

pub completes : {S D : Type 0} → OneRecords → (left : S → Option (List ℕ)) (seen : D → Seen) (words : List (List ℕ)) (source source' : S) (old new : D) (x y : Option (List ℕ)) (ReadFault WriteFault : Type 0) (status : ExitStatus)
    → LoadRan left seen words source source' old new x y status → (status ≡ statuses.Source → ReadFault) → (status ≡ statuses.Sink → WriteFault) → CompletesLoad seen words (left source) old new x y ReadFault WriteFault status
completes one left seen words source source' old new x y ReadFault WriteFault status ran read write =
    let T = HasTakenFirst x y in
    let ends : words ≡ [] → (batches : List (List Request)) → IsWholeInput (λ input. IsLoadText input batches) (left source) → HoldsSound (seen old) → Ends (IsAllLoaded seen T old new batches) ran.due ran.text =
    λ none batches input has. whole_ends seen T old new batches has (left source) (left source') input ran.due ran.text (asked_due left seen T words source source' old new none ran.due ran.text ran.is_due) in
    record {
      of_load = λ none batches input has no_read no_write no_rise.
          written_ends (IsAllLoaded seen T old new batches) x y ran.due ran.text status ran.is_written (ends none batches input has)
          (λ failed. ⊎_elim (λ e. no_read (read e)) (λ other. ⊎_elim (λ e. no_write (write e)) (λ e. no_rise (ran_rose left seen words source source' old new x y status ran e)) other) failed);
      none_full = λ none batches input has room limit.
          none_full_by one seen T old new batches has ran.text room (limit_told seen T old new batches x y ran.due ran.text status ran.is_written (ends none batches input has) limit);
    }
