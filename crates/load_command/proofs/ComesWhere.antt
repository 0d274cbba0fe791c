-- Where each cause is, its status comes, or that of a fault.
use Rattle.std.specs.Prelude.{Option, Some}
use Rattle.std.proofs.Common.{◌≡◌, ◌≢◌, ◌⊎◌, inl, inr, ℕ, ◌≤◌, List, [], ◌∷◌, ◌++◌, length, ap, arith, refl, subst}
use Rattle.setoff_model.specs.declared.limits.TheConstants.{MOST_INPUT_BYTES}
use Rattle.disk_model.specs.Calls.{Seen}
use Rattle.request_text.specs.declared.request.Request.{Request}
use Rattle.load_reading.specs.Reading.{IsNoLoadText}
use Rattle.journal_texts.specs.printed_text.specs.declared.exit_status.ExitStatus.{ExitStatus}
use Rattle.journal_texts.specs.printed_text.specs.declared.exit_status.ExitStatus.TheVariants as statuses
use Rattle.journal_texts.specs.printed_text.specs.Statuses.{IsOneOf}
use Rattle.journal_texts.specs.printed_text.proofs.Statuses.{behind}
use Rattle.journal_texts.proofs.Openings.{opening_one}
use Rattle.journal_texts.proofs.Written.{told_one, told_status}
use Rattle.journal_texts.specs.Calls.{IsReadDue, IsTooLong, IsWholeInput, input_read, no_input_memory, read_fault, too_long}
use Rattle.journal_texts.specs.Journals.{HoldsUnsound}
use Rattle.load_command.specs.Headline.{HasTakenFirst, Taking}
use Rattle.load_command.specs.Due.{IsLoadDue, loaded, no_output_memory, not_opened}
use Rattle.load_command.specs.Inputs.{IsLoadCallDue, IsInputDue, LoadRan, asked, bad_line, bad_words, batches_read, no_line_memory, no_request_memory, not_read}
use Rattle.load_command.specs.Causes.{LoadComesWhere, IsInForm}
use Rattle.journal_texts.proofs.Inputs.{all_taken, taken_long}

-- the source is one more
with_source : (one : ExitStatus) (dues : List ExitStatus) (status : ExitStatus) → IsOneOf (one ∷ dues) status → IsOneOf (one ∷ statuses.Source ∷ dues) status
with_source one dues status (inl is) = inl is
with_source one dues status (inr rest) = inr (inr rest)

module _ {D : Type 0} (seen : D → Seen) (Taken : Taking) (old new : D) where
  -- ---- an input

  unspelled : (input : List ℕ) → IsNoLoadText input → (status : ExitStatus) (text : List ℕ) → IsInputDue seen Taken old new input status text → IsOneOf (statuses.Form ∷ statuses.Memory ∷ []) status
  unspelled input none status text (no_request_memory same) = inr (inl refl)
  unspelled input none status text (not_read same s t no_line_memory) = inr (inl refl)
  unspelled input none status text (not_read same s t (bad_line line cause first is)) = inl refl
  unspelled input none status text (batches_read batches is s t due) = absurd (none batches is)

  unsound_load : (batches : List (List Request)) → HoldsUnsound (seen old) → (status : ExitStatus) (text : List ℕ) → IsLoadDue seen Taken old new batches status text → IsOneOf (statuses.Unsound ∷ statuses.Disk ∷ statuses.Memory ∷ []) status
  unsound_load batches un status text (no_output_memory same) = inr (inr (inl refl))
  unsound_load batches un status text (not_opened cause refused) = opening_one cause
  unsound_load batches un status text (loaded s t h) = absurd (un.none h.is_history.records h.is_history.found h.is_history.sound)

  unsound_input : HoldsUnsound (seen old) → (input : List ℕ) → IsInForm input → (status : ExitStatus) (text : List ℕ) → IsInputDue seen Taken old new input status text → IsOneOf (statuses.Unsound ∷ statuses.Disk ∷ statuses.Memory ∷ []) status
  unsound_input un input form status text (no_request_memory same) = inr (inr (inl refl))
  unsound_input un input form status text (not_read same s t no_line_memory) = inr (inr (inl refl))
  unsound_input un input form status text (not_read same s t (bad_line line cause first none)) = absurd (none form.0 form.1)
  unsound_input un input form status text (batches_read batches is s t due) = unsound_load batches un s t due

  -- ---- the reading

  read_long : (input : List ℕ) (left_new : Option (List ℕ)) → IsTooLong input → (status : ExitStatus) (text : List ℕ) → IsReadDue (IsInputDue seen Taken old new) (new ≡ old) (Some input) left_new status text → IsOneOf (statuses.Limit ∷ statuses.Source ∷ statuses.Memory ∷ []) status
  read_long input left_new long status text (no_input_memory same) = inr (inr (inl refl))
  read_long input left_new long status text (read_fault same) = inr (inl refl)
  read_long input left_new long status text (too_long same taken h many) = inl refl
  read_long input left_new long status text (input_read taken all s t due) =
      absurd (omega (arith, long, all.within, ap (λ (l : List ℕ). length l) (all_taken input taken left_new all.taken all.at_end)))

  read_one : (input : List ℕ) (left_new : Option (List ℕ)) → length input ≤ MOST_INPUT_BYTES → (one : ExitStatus) (dues : List ExitStatus)
      → ((status : ExitStatus) (text : List ℕ) → IsInputDue seen Taken old new input status text → IsOneOf (one ∷ dues ++ statuses.Memory ∷ []) status)
      → (status : ExitStatus) (text : List ℕ) → IsReadDue (IsInputDue seen Taken old new) (new ≡ old) (Some input) left_new status text → IsOneOf (one ∷ statuses.Source ∷ dues ++ statuses.Memory ∷ []) status
  read_one input left_new within one dues comes status text (no_input_memory same) = inr (inr (behind dues (statuses.Memory ∷ []) statuses.Memory (inl refl)))
  read_one input left_new within one dues comes status text (read_fault same) = inr (inl refl)
  read_one input left_new within one dues comes status text (too_long same taken h many) = absurd (omega (arith, within, taken_long input taken left_new h many))
  read_one input left_new within one dues comes status text (input_read taken all s t due) =
      with_source one (dues ++ statuses.Memory ∷ []) s (comes s t (subst (λ (bytes : List ℕ). IsInputDue seen Taken old new bytes s t) (all_taken input taken left_new all.taken all.at_end) due))

  whole_one : (Holds : List ℕ → Type 0) (left left_new : Option (List ℕ)) → IsWholeInput Holds left → (one : ExitStatus) (dues : List ExitStatus)
      → ((input : List ℕ) → Holds input → (status : ExitStatus) (text : List ℕ) → IsInputDue seen Taken old new input status text → IsOneOf (one ∷ dues ++ statuses.Memory ∷ []) status)
      → (status : ExitStatus) (text : List ℕ) → IsReadDue (IsInputDue seen Taken old new) (new ≡ old) left left_new status text → IsOneOf (one ∷ statuses.Source ∷ dues ++ statuses.Memory ∷ []) status
  whole_one Holds left left_new whole one dues comes status text due =
      read_one whole.input left_new whole.within one dues (comes whole.input whole.holds) status text
      (subst (λ (l : Option (List ℕ)). IsReadDue (IsInputDue seen Taken old new) (new ≡ old) l left_new status text) whole.told due)

-- ---- the words

module _ {S D : Type 0} (left : S → Option (List ℕ)) (seen : D → Seen) (Taken : Taking) (words : List (List ℕ)) (source source' : S) (old new : D) where
  words_one : words ≢ [] → (status : ExitStatus) (text : List ℕ) → IsLoadCallDue left seen Taken words source source' old new status text → IsOneOf (statuses.Words ∷ []) status
  words_one some status text (bad_words is same still) = inl refl
  words_one some status text (asked none s t due) = absurd (some none)

  pub asked_due : words ≡ [] → (status : ExitStatus) (text : List ℕ) → IsLoadCallDue left seen Taken words source source' old new status text → IsReadDue (IsInputDue seen Taken old new) (new ≡ old) (left source) (left source') status text
  asked_due none status text (bad_words some same still) = absurd (some none)
  asked_due none status text (asked is s t due) = due

pub comes_where : {S D : Type 0} (left : S → Option (List ℕ)) (seen : D → Seen) (words : List (List ℕ)) (source source' : S) (old new : D) (x y : Option (List ℕ)) (status : ExitStatus) → LoadRan left seen words source source' old new x y status
    → LoadComesWhere words (left source) (seen old) status
comes_where left seen words source source' old new x y status ran =
    let either : (status ≡ ran.due) ⊎ (status ≡ statuses.Sink) = told_status x y ran.due ran.text status ran.is_written in
    let Read : Type 0 = IsReadDue (IsInputDue seen (HasTakenFirst x y) old new) (new ≡ old) (left source) (left source') ran.due ran.text in
    let due : words ≡ [] → Read = λ none. asked_due left seen (HasTakenFirst x y) words source source' old new none ran.due ran.text ran.is_due in
    record {
      of_words = λ some. told_one (statuses.Words ∷ []) ran.due status (words_one left seen (HasTakenFirst x y) words source source' old new some ran.due ran.text ran.is_due) either;
      of_length = λ none input is long.
          told_one (statuses.Limit ∷ statuses.Source ∷ statuses.Memory ∷ []) ran.due status
          (read_long seen (HasTakenFirst x y) old new input (left source') long ran.due ran.text
          (subst (λ (l : Option (List ℕ)). IsReadDue (IsInputDue seen (HasTakenFirst x y) old new) (new ≡ old) l (left source') ran.due ran.text) is (due none))) either;
      of_form = λ none whole.
          told_one (statuses.Form ∷ statuses.Source ∷ statuses.Memory ∷ []) ran.due status
          (whole_one seen (HasTakenFirst x y) old new IsNoLoadText (left source) (left source') whole statuses.Form [] (unspelled seen (HasTakenFirst x y) old new) ran.due ran.text (due none)) either;
      of_opening = λ none whole un.
          told_one (statuses.Unsound ∷ statuses.Source ∷ statuses.Disk ∷ statuses.Memory ∷ []) ran.due status
          (whole_one seen (HasTakenFirst x y) old new IsInForm (left source) (left source') whole statuses.Unsound (statuses.Disk ∷ []) (unsound_input seen (HasTakenFirst x y) old new un) ran.due ran.text (due none)) either;
    }
