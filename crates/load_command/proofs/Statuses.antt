-- The statuses that a load ends with.
use Rattle.std.specs.Prelude.{Option}
use Rattle.std.proofs.Common.{◌≡◌, inl, inr, ℕ, Bool, true, false, List, [], ◌∷◌, arith, refl}
use Rattle.disk_model.specs.Calls.{Seen}
use Rattle.request_text.specs.declared.request.Request.{Request}
use Rattle.journal_texts.specs.bureau_desk.specs.fault_count.specs.Counts.{HasRisen}
use Rattle.journal_texts.specs.bureau_desk.specs.fault_count.proofs.Rising.{risen_within}
use Rattle.journal_texts.specs.bureau_desk.specs.declared.desk_refused.DeskCause.{DeskCause}
use Rattle.journal_texts.specs.bureau_desk.specs.declared.desk_refused.DeskCause.TheVariants.{Memory, Device, BadHeader, BadRecord, BadAct, Overfull}
use Rattle.journal_texts.specs.bureau_desk.specs.Opening.{HasDeskCause}
use Rattle.journal_texts.specs.printed_text.specs.served_lines.specs.Ends.{is_full_end, is_memory_end}
use Rattle.journal_texts.specs.printed_text.specs.served_lines.specs.Served.{Line}
use Rattle.journal_texts.specs.printed_text.specs.declared.exit_status.ExitStatus.{ExitStatus}
use Rattle.journal_texts.specs.printed_text.specs.declared.exit_status.ExitStatus.TheVariants as statuses
use Rattle.journal_texts.specs.printed_text.specs.Statuses.{IsOneOf}
use Rattle.journal_texts.specs.printed_text.specs.Writing.{Wrote}
use Rattle.journal_texts.specs.printed_text.proofs.Statuses.{other_than}
use Rattle.journal_texts.specs.DiskTexts.{opening_status}
use Rattle.journal_texts.proofs.Openings.{opening_among}
use Rattle.journal_texts.proofs.Written.{wrote_among}
use Rattle.group_runs.specs.Runs.{load_status, some_end}
use Rattle.load_command.specs.Headline.{IsLoadHeadline, LoadEnd, Taking, all_kept, disk_failed, sink_failed}
use Rattle.load_command.specs.Due.{IsLoadDue, loaded, no_output_memory, not_opened}
use Rattle.load_command.specs.Inputs.{IsInputDue, bad_line, batches_read, no_line_memory, no_request_memory, not_read}

abbrev pub load_statuses : List ExitStatus
load_statuses = statuses.Done ∷ statuses.Disk ∷ statuses.Limit ∷ statuses.Memory ∷ statuses.Sink ∷ []

kept_one : (memory full : Bool) → IsOneOf load_statuses (load_status memory full)
kept_one true full = inr (inr (inr (inl refl)))
kept_one false true = inr (inr (inl refl))
kept_one false false = inl refl

kept_undisturbed : (memory full : Bool) → load_status memory full ≡ statuses.Disk → ⊥
kept_undisturbed true full is = cc
kept_undisturbed false true is = cc
kept_undisturbed false false is = cc

module _ (low high : ℕ) (requests : List (List Request)) (groups : List (List Line)) (tried : List Line) where
  ended_one : (status : ExitStatus) (told : List ℕ) → LoadEnd low high requests groups tried status told → IsOneOf load_statuses status
  ended_one status told (all_kept is none) = kept_one (some_end is_memory_end groups) (some_end is_full_end groups)
  ended_one status told (sink_failed rest is none) = inr (inr (inr (inr (inl refl))))
  ended_one status told (disk_failed rest before after is from to rose) = inr (inl refl)

  ended_rose : (status : ExitStatus) (told : List ℕ) → LoadEnd low high requests groups tried status told → status ≡ statuses.Disk → HasRisen low high
  ended_rose status told (all_kept is none) disk = absurd (kept_undisturbed (some_end is_memory_end groups) (some_end is_full_end groups) disk)
  ended_rose status told (sink_failed rest is none) disk = cc
  ended_rose status told (disk_failed rest before after is from to rose) disk = risen_within low before after high from (omega (arith, to)) rose

module _ {D : Type 0} (seen : D → Seen) (Taken : Taking) (old new : D) where
  pub headline_one : (batches : List (List Request)) (status : ExitStatus) (text : List ℕ) → IsLoadHeadline seen Taken old new batches status text → IsOneOf load_statuses status
  headline_one batches status text h = ended_one (seen old).count (seen new).count _ h.groups h.tried status h.told h.ended

  -- ---- the source is told of by no load

  load_one : (batches : List (List Request)) (status : ExitStatus) (text : List ℕ) → IsLoadDue seen Taken old new batches status text → IsOneOf (statuses.Disk ∷ statuses.Unsound ∷ statuses.Memory ∷ load_statuses) status
  load_one batches status text (no_output_memory same) = inr (inr (inl refl))
  load_one batches status text (not_opened cause refused) = in_three (opening_status cause) (opening_among cause) where
    in_three : (s : ExitStatus) → IsOneOf (statuses.Disk ∷ statuses.Unsound ∷ statuses.Memory ∷ []) s → IsOneOf (statuses.Disk ∷ statuses.Unsound ∷ statuses.Memory ∷ load_statuses) s
    in_three s (inl is) = inl is
    in_three s (inr (inl is)) = inr (inl is)
    in_three s (inr (inr (inl is))) = inr (inr (inl is))
    in_three s (inr (inr (inr none))) = absurd none
  load_one batches status text (loaded s t h) = inr (inr (inr (headline_one batches s t h)))

  input_one : (input : List ℕ) (status : ExitStatus) (text : List ℕ) → IsInputDue seen Taken old new input status text → IsOneOf (statuses.Form ∷ statuses.Disk ∷ statuses.Unsound ∷ statuses.Memory ∷ load_statuses) status
  input_one input status text (no_request_memory same) = inr (inr (inr (inl refl)))
  input_one input status text (not_read same s t no_line_memory) = inr (inr (inr (inl refl)))
  input_one input status text (not_read same s t (bad_line line cause first none)) = inl refl
  input_one input status text (batches_read batches is s t due) = inr (load_one batches s t due)

  pub no_source : (input : List ℕ) (x y : Option (List ℕ)) (status : ExitStatus) → Wrote (IsInputDue seen Taken old new input) x y status → status ≡ statuses.Source → ⊥
  no_source input x y status w source =
      let dues = statuses.Form ∷ statuses.Disk ∷ statuses.Unsound ∷ statuses.Memory ∷ load_statuses in
      other_than statuses.Source (statuses.Sink ∷ dues) status refl source (wrote_among (IsInputDue seen Taken old new input) dues x y status (input_one input) w)

  -- ---- where a status tells of the disk, its count rose

  opening_rose : (cause : DeskCause) → HasDeskCause (seen old).tells (seen old).reads (seen old).count (seen new).count cause → opening_status cause ≡ statuses.Disk → HasRisen (seen old).count (seen new).count
  opening_rose Memory h disk = cc
  opening_rose (Device before after) h disk = risen_within (seen old).count before after (seen new).count h.0 (omega (arith, h.1)) h.2
  opening_rose BadHeader h disk = cc
  opening_rose (BadRecord offset why) h disk = cc
  opening_rose (BadAct offset got) h disk = cc
  opening_rose (Overfull offset) h disk = cc

  load_rose : (batches : List (List Request)) (status : ExitStatus) (text : List ℕ) → IsLoadDue seen Taken old new batches status text → status ≡ statuses.Disk → HasRisen (seen old).count (seen new).count
  load_rose batches status text (no_output_memory same) disk = cc
  load_rose batches status text (not_opened cause refused) disk = opening_rose cause refused.has disk
  load_rose batches status text (loaded s t h) disk = ended_rose (seen old).count (seen new).count _ h.groups h.tried s h.told h.ended disk

  pub input_rose : (input : List ℕ) (status : ExitStatus) (text : List ℕ) → IsInputDue seen Taken old new input status text → status ≡ statuses.Disk → HasRisen (seen old).count (seen new).count
  input_rose input status text (no_request_memory same) disk = cc
  input_rose input status text (not_read same s t no_line_memory) disk = cc
  input_rose input status text (not_read same s t (bad_line line cause first none)) disk = cc
  input_rose input status text (batches_read batches is s t due) disk = load_rose batches s t due disk
