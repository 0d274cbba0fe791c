-- What an input comes to that is served while it is read.
use Rattle.std.specs.Prelude.{IsTrue, Option, Some}
use Rattle.std.proofs.Common.{◌≡◌, ◌∙◌, ◌⊎◌, ⊎_elim, inl, inr, ℕ, ◌+◌, ◌≤◌, false, List, [], ◌∷◌, length, take, refl, sym, subst, true≢false, arith}
use Rattle.std.specs.Io.KnownBytes.{Consumes}
use Rattle.setoff_model.specs.declared.limits.TheConstants.{MOST_INPUT_BYTES}
use Rattle.disk_model.specs.Calls.{Seen}
use Rattle.request_text.specs.Grammar.{AreBatches, IsRequestText}
use Rattle.live_runs.specs.input_front.specs.Front.{whole_lines}
use Rattle.live_runs.specs.live_reading.specs.declared.stop.Stop.{Stop}
use Rattle.live_runs.specs.live_reading.specs.declared.stop.Stop.TheVariants as stop
use Rattle.live_runs.specs.live_reading.specs.Fronts.{is_fence}
use Rattle.command_words.specs.declared.command.Command.TheVariants as commands
use Rattle.live_runs.specs.printed_text.specs.declared.exit_status.ExitStatus.{ExitStatus}
use Rattle.live_runs.specs.printed_text.specs.declared.exit_status.ExitStatus.TheVariants as statuses
use Rattle.live_runs.specs.printed_text.specs.Statuses.{IsOneOf}
use Rattle.live_runs.specs.printed_text.specs.Writing.{IsWritten, Wrote}
use Rattle.live_runs.specs.printed_text.proofs.Statuses.{in_front, other_than}
use Rattle.bureau_reports.proofs.Written.{told_status}
use Rattle.bureau_commands.specs.Calls.{IsTooLong, IsWholeInput}
use Rattle.bureau_commands.specs.Headline.{IsHeadline, Output}
use Rattle.bureau_commands.specs.Journals.{HoldsSound, HoldsUnsound}
use Rattle.bureau_commands.specs.Due.{IsBatchesDue, IsLiveDue, IsLiveHeadline, IsNotBegunDue, all_served, broken_off, not_begun, stop_status, stop_text}
use Rattle.bureau_commands.specs.Causes.{HasCause, IsOutOfForm, StartsInForm, StartsOutOfForm, disk_failed, done, full_line, no_memory, not_opened, out_of_form, source_failed, too_long}
use Rattle.bureau_reports.specs.journal_texts.proofs.Inputs.{all_taken, no_shorter}
use Rattle.bureau_commands.proofs.TakenInputs.{bad_input, bad_start, first_taken}
use Rattle.bureau_commands.proofs.Bound.{none_asked}
use Rattle.bureau_commands.proofs.Completeness.{none_served}
use Rattle.bureau_commands.proofs.RunCauses.{batches_cases, headline_one, unsound_batches}

module _ {D : Type 0} (seen : D → Seen) (output : Output D) (old new : D) where
  -- why no batch was served: memory was missing, the disk or the sink failed, or the disk's bytes have a fault
  abbrev Unserved : ExitStatus → Type 0
  Unserved status = IsOneOf (statuses.Disk ∷ statuses.Memory ∷ statuses.Sink ∷ []) status ⊎ ((status ≡ statuses.Unsound) × (IsTrue (seen old).tells → HoldsUnsound (seen old)))

  unserved : (status : ExitStatus) (text : List ℕ) → (status ≡ statuses.Done → ⊥) → IsBatchesDue seen output old new [] status text → Unserved status
  unserved status text some due = ⊎_elim
      (λ failed. inl (in_front (statuses.Disk ∷ statuses.Memory ∷ []) (statuses.Sink ∷ []) status failed))
      (λ other. ⊎_elim
      (λ fault. inr fault)
      (λ h. ⊎_elim (λ is. absurd (some is)) (λ sink. inl (inr (inr (inl sink)))) (none_served seen output old new status text h))
      other)
      (batches_cases seen output old new [] status text due)

  -- a disk that holds sound records has no fault
  sound_unserved : HoldsSound (seen old) → (status : ExitStatus) → Unserved status → IsOneOf (statuses.Disk ∷ statuses.Memory ∷ statuses.Sink ∷ []) status
  sound_unserved has status (inl one) = one
  sound_unserved has status (inr fault) = let un = fault.1 has.tells in absurd (un.none has.records has.found has.sound)

  -- that tells of no source
  pub begun_no_source : (x y : Option (List ℕ)) (status : ExitStatus) → Wrote (IsNotBegunDue seen output old new) x y status → status ≡ statuses.Source → ⊥
  begun_no_source x y status w source = ⊎_elim
      (λ is. none (unserved w.due w.text w.is_due.0 (w.is_due.1 [] none_asked)) (sym is ∙ source))
      (λ sink. cc (sink, source))
      (told_status x y w.due w.text status w.is_written)
    where
      none : Unserved w.due → w.due ≡ statuses.Source → ⊥
      none (inl one) is = other_than statuses.Source (statuses.Disk ∷ statuses.Memory ∷ statuses.Sink ∷ []) w.due refl is one
      none (inr fault) is = cc (fault.0, is)

-- the source is told of where the reading ended by its failure
failed_stop : (why : Stop) (due : ExitStatus) → (due ≡ statuses.Source → ⊥) → stop_status why due ≡ statuses.Source → why ≡ stop.Failed
failed_stop stop.Fence due other is = absurd (other is)
failed_stop stop.End due other is = absurd (other is)
failed_stop (stop.BadLine line cause) due other is = absurd (cc is)
failed_stop stop.Failed due other is = refl
failed_stop stop.TooLong due other is = absurd (cc is)
failed_stop stop.Memory due other is = absurd (cc is)

pub stopped_failed : (x y : Option (List ℕ)) (why : Stop) (due status : ExitStatus) → (due ≡ statuses.Source → ⊥) → IsWritten x y (stop_status why due) (stop_text why) status → status ≡ statuses.Source → why ≡ stop.Failed
stopped_failed x y why due status other told source = ⊎_elim
    (λ is. failed_stop why due other (sym is ∙ source))
    (λ sink. absurd (cc (sink, source)))
    (told_status x y (stop_status why due) (stop_text why) status told)

module _ {S D : Type 0} (left : S → Option (List ℕ)) (seen : D → Seen) (output : Output D) (source source' : S) (old new : D) where
  -- what was taken of an input that the source tells
  took : (input taken : List ℕ) → left source ≡ Some input → Consumes (left source) (left source') taken → Consumes (Some input) (left source') taken
  took input taken told h = subst (λ (l : Option (List ℕ)). Consumes l (left source') taken) told h

  -- ---- where a cause is

  served_sound : (why : Stop) (due : ExitStatus) (text : List ℕ) → IsLiveHeadline seen output (left source) (left source') old new why due text → HoldsUnsound (seen old) → ⊥
  served_sound why due text h un = un.none h.ran.is_history.records h.ran.is_history.found h.ran.is_history.sound

  -- a journal that is not sound
  pub live_unsound : HoldsUnsound (seen old) → (status : ExitStatus) (text : List ℕ) → IsLiveDue left seen output source source' old new status text
      → IsOneOf (statuses.Unsound ∷ statuses.Disk ∷ statuses.Memory ∷ statuses.Sink ∷ []) status
  live_unsound un status text (not_begun same s t some due) = in_front (statuses.Unsound ∷ statuses.Disk ∷ statuses.Memory ∷ []) (statuses.Sink ∷ []) s (unsound_batches seen output old new [] un s t due)
  live_unsound un status text (broken_off why t h) = absurd (served_sound why statuses.Sink t h un)
  live_unsound un status text (all_served why due t some h apart at_end) = absurd (served_sound why due t h un)

  -- an input that is not in the grammar
  stopped_form : (input : List ℕ) → left source ≡ Some input → length input ≤ MOST_INPUT_BYTES → IsOutOfForm commands.Live input → (why : Stop) (due : ExitStatus) (text : List ℕ) (h : IsLiveHeadline seen output (left source) (left source') old new why due text)
      → is_fence why ≡ false → (why ≡ stop.End → IsRequestText h.taken h.batches) → IsOneOf (statuses.Form ∷ statuses.Source ∷ statuses.Disk ∷ statuses.Memory ∷ statuses.Sink ∷ []) (stop_status why due)
  stopped_form input told within none stop.Fence due text h apart at_end = absurd (true≢false apart)
  stopped_form input told within none stop.End due text h apart at_end =
      let same : h.taken ≡ input = all_taken input h.taken (left source') (took input h.taken told h.consumed) h.front.0.0 in
      absurd (none (h.batches, subst (λ (bytes : List ℕ). IsRequestText bytes h.batches) same (at_end refl)))
  stopped_form input told within none (stop.BadLine line cause) due text h apart at_end = inl refl
  stopped_form input told within none stop.Failed due text h apart at_end = inr (inl refl)
  stopped_form input told within none stop.TooLong due text h apart at_end =
      absurd (omega (arith, no_shorter input h.taken (left source') (took input h.taken told h.consumed), within, h.front.1))
  stopped_form input told within none stop.Memory due text h apart at_end = inr (inr (inr (inl refl)))

  pub live_form : HoldsSound (seen old) → IsWholeInput (IsOutOfForm commands.Live) (left source) → (status : ExitStatus) (text : List ℕ) → IsLiveDue left seen output source source' old new status text
      → IsOneOf (statuses.Form ∷ statuses.Source ∷ statuses.Disk ∷ statuses.Memory ∷ statuses.Sink ∷ []) status
  live_form has input status text (not_begun same s t some due) = inr (inr (sound_unserved seen output old new has s (unserved seen output old new s t some due)))
  live_form has input status text (broken_off why t h) = inr (inr (inr (inr (inl refl))))
  live_form has input status text (all_served why due t some h apart at_end) = stopped_form input.input input.told input.within input.holds why due t h apart at_end

  -- one that was taken whole is not too long
  whole_short : (input : List ℕ) → left source ≡ Some input → (due : ExitStatus) (text : List ℕ) → IsLiveHeadline seen output (left source) (left source') old new stop.End due text → length input ≤ MOST_INPUT_BYTES
  whole_short input told due text h =
      subst (λ (bytes : List ℕ). length bytes ≤ MOST_INPUT_BYTES) (all_taken input h.taken (left source') (took input h.taken told h.consumed) h.front.0.0) h.front.0.1

  -- one that is too long
  stopped_long : (input : List ℕ) → left source ≡ Some input → IsTooLong input → (why : Stop) (due : ExitStatus) (text : List ℕ) (h : IsLiveHeadline seen output (left source) (left source') old new why due text)
      → is_fence why ≡ false → IsOneOf (statuses.Limit ∷ statuses.Form ∷ statuses.Source ∷ statuses.Disk ∷ statuses.Memory ∷ statuses.Sink ∷ []) (stop_status why due)
  stopped_long input told many stop.Fence due text h apart = absurd (true≢false apart)
  stopped_long input told many stop.End due text h apart = absurd (omega (arith, many, whole_short input told due text h))
  stopped_long input told many (stop.BadLine line cause) due text h apart = inr (inl refl)
  stopped_long input told many stop.Failed due text h apart = inr (inr (inl refl))
  stopped_long input told many stop.TooLong due text h apart = inl refl
  stopped_long input told many stop.Memory due text h apart = inr (inr (inr (inr (inl refl))))

  pub live_long : HoldsSound (seen old) → (input : List ℕ) → left source ≡ Some input → IsTooLong input → (status : ExitStatus) (text : List ℕ) → IsLiveDue left seen output source source' old new status text
      → IsOneOf (statuses.Limit ∷ statuses.Form ∷ statuses.Source ∷ statuses.Disk ∷ statuses.Memory ∷ statuses.Sink ∷ []) status
  live_long has input told many status text (not_begun same s t some due) = inr (inr (inr (sound_unserved seen output old new has s (unserved seen output old new s t some due))))
  live_long has input told many status text (broken_off why t h) = inr (inr (inr (inr (inr (inl refl)))))
  live_long has input told many status text (all_served why due t some h apart at_end) = stopped_long input told many why due t h apart

  -- one that is too long, and whose start is not in the grammar
  stopped_start : (input : List ℕ) → left source ≡ Some input → IsTooLong input → StartsOutOfForm input → (why : Stop) (due : ExitStatus) (text : List ℕ) (h : IsLiveHeadline seen output (left source) (left source') old new why due text)
      → is_fence why ≡ false → IsOneOf (statuses.Form ∷ statuses.Source ∷ statuses.Disk ∷ statuses.Memory ∷ statuses.Sink ∷ []) (stop_status why due)
  stopped_start input told many none stop.Fence due text h apart = absurd (true≢false apart)
  stopped_start input told many none stop.End due text h apart = absurd (omega (arith, many, whole_short input told due text h))
  stopped_start input told many none (stop.BadLine line cause) due text h apart = inl refl
  stopped_start input told many none stop.Failed due text h apart = inr (inl refl)
  stopped_start input told many none stop.TooLong due text h apart =
      let first : h.taken ≡ take (MOST_INPUT_BYTES + 1) input = first_taken input h.taken (left source') (MOST_INPUT_BYTES + 1) (took input h.taken told h.consumed) h.front.1 in
      absurd (none h.batches (subst (λ (bytes : List ℕ). AreBatches 1 (whole_lines bytes) h.batches) first h.front.0))
  stopped_start input told many none stop.Memory due text h apart = inr (inr (inr (inl refl)))

  pub live_start : HoldsSound (seen old) → (input : List ℕ) → left source ≡ Some input → IsTooLong input → StartsOutOfForm input → (status : ExitStatus) (text : List ℕ) → IsLiveDue left seen output source source' old new status text
      → IsOneOf (statuses.Form ∷ statuses.Source ∷ statuses.Disk ∷ statuses.Memory ∷ statuses.Sink ∷ []) status
  live_start has input told many none status text (not_begun same s t some due) = inr (inr (sound_unserved seen output old new has s (unserved seen output old new s t some due)))
  live_start has input told many none status text (broken_off why t h) = inr (inr (inr (inr (inl refl))))
  live_start has input told many none status text (all_served why due t some h apart at_end) = stopped_start input told many none why due t h apart

  -- one that is too long, and whose start is in the grammar
  stopped_limit : (input : List ℕ) → left source ≡ Some input → IsTooLong input → StartsInForm input → (why : Stop) (due : ExitStatus) (text : List ℕ) (h : IsLiveHeadline seen output (left source) (left source') old new why due text)
      → is_fence why ≡ false → IsOneOf (statuses.Limit ∷ statuses.Source ∷ statuses.Disk ∷ statuses.Memory ∷ statuses.Sink ∷ []) (stop_status why due)
  stopped_limit input told many starts stop.Fence due text h apart = absurd (true≢false apart)
  stopped_limit input told many starts stop.End due text h apart = absurd (omega (arith, many, whole_short input told due text h))
  stopped_limit input told many starts (stop.BadLine line cause) due text h apart =
      absurd (bad_start input h.taken (left source') line cause many (took input h.taken told h.consumed) h.front.1 starts.0 starts.1)
  stopped_limit input told many starts stop.Failed due text h apart = inr (inl refl)
  stopped_limit input told many starts stop.TooLong due text h apart = inl refl
  stopped_limit input told many starts stop.Memory due text h apart = inr (inr (inr (inl refl)))

  pub live_limit : HoldsSound (seen old) → (input : List ℕ) → left source ≡ Some input → IsTooLong input → StartsInForm input → (status : ExitStatus) (text : List ℕ) → IsLiveDue left seen output source source' old new status text
      → IsOneOf (statuses.Limit ∷ statuses.Source ∷ statuses.Disk ∷ statuses.Memory ∷ statuses.Sink ∷ []) status
  live_limit has input told many starts status text (not_begun same s t some due) = inr (inr (sound_unserved seen output old new has s (unserved seen output old new s t some due)))
  live_limit has input told many starts status text (broken_off why t h) = inr (inr (inr (inr (inl refl))))
  live_limit has input told many starts status text (all_served why due t some h apart at_end) = stopped_limit input told many starts why due t h apart

  -- ---- why it ends with a status, unless the sink failed

  abbrev Why : ExitStatus → Type 0
  Why n = HasCause seen output (left source) old new commands.Live n

  at : (status n : ExitStatus) → status ≡ n → Why n → (status ≡ statuses.Sink) ⊎ Why status
  at status n is why = inr (subst Why (sym is) why)

  unserved_why : (status : ExitStatus) → Unserved seen output old new status → (status ≡ statuses.Sink) ⊎ Why status
  unserved_why status (inl (inl is)) = at status statuses.Disk is (disk_failed commands.Live tt)
  unserved_why status (inl (inr (inl is))) = at status statuses.Memory is (no_memory commands.Live)
  unserved_why status (inl (inr (inr (inl is)))) = inl is
  unserved_why status (inl (inr (inr (inr none)))) = absurd none
  unserved_why status (inr fault) = at status statuses.Unsound fault.0 (not_opened commands.Live tt fault.1)

  -- all of the input was served
  whole_why : (due : ExitStatus) (text : List ℕ) (h : IsLiveHeadline seen output (left source) (left source') old new stop.End due text) → IsRequestText h.taken h.batches
      → IsOneOf (statuses.Done ∷ statuses.Disk ∷ statuses.Limit ∷ statuses.Memory ∷ statuses.Sink ∷ []) due → (due ≡ statuses.Sink) ⊎ Why due
  whole_why due text h spelled (inl is) = at due statuses.Done is (done commands.Live)
  whole_why due text h spelled (inr (inl is)) = at due statuses.Disk is (disk_failed commands.Live tt)
  whole_why due text h spelled (inr (inr (inl is))) = at due statuses.Limit is (full_line commands.Live tt (λ input told.
      let same : h.taken ≡ input = all_taken input h.taken (left source') (took input h.taken told h.consumed) h.front.0.0 in
      record {
        batches = h.batches;
        spelled = subst (λ (bytes : List ℕ). IsRequestText bytes h.batches) same spelled;
        text = text;
        ran = subst (λ (n : ExitStatus). IsHeadline seen output old new h.batches n text) is h.ran;
      }))
  whole_why due text h spelled (inr (inr (inr (inl is)))) = at due statuses.Memory is (no_memory commands.Live)
  whole_why due text h spelled (inr (inr (inr (inr (inl is))))) = inl is
  whole_why due text h spelled (inr (inr (inr (inr (inr none))))) = absurd none

  stopped_why : (why : Stop) (due : ExitStatus) (text : List ℕ) (h : IsLiveHeadline seen output (left source) (left source') old new why due text) → is_fence why ≡ false → (why ≡ stop.End → IsRequestText h.taken h.batches)
      → (stop_status why due ≡ statuses.Sink) ⊎ Why (stop_status why due)
  stopped_why stop.Fence due text h apart at_end = absurd (true≢false apart)
  stopped_why stop.End due text h apart at_end = whole_why due text h (at_end refl) (headline_one seen output old new h.batches due text h.ran)
  stopped_why (stop.BadLine line cause) due text h apart at_end =
      inr (out_of_form commands.Live tt (λ input told form. bad_input input h.taken (left source') line cause (took input h.taken told h.consumed) h.front.1 form.0 form.1))
  stopped_why stop.Failed due text h apart at_end = inr (source_failed commands.Live tt)
  stopped_why stop.TooLong due text h apart at_end =
      inr (too_long commands.Live tt (λ input told. omega (arith, no_shorter input h.taken (left source') (took input h.taken told h.consumed), h.front.1)))
  stopped_why stop.Memory due text h apart at_end = inr (no_memory commands.Live)

  pub live_why : (status : ExitStatus) (text : List ℕ) → IsLiveDue left seen output source source' old new status text → (status ≡ statuses.Sink) ⊎ HasCause seen output (left source) old new commands.Live status
  live_why status text (not_begun same s t some due) = unserved_why s (unserved seen output old new s t some due)
  live_why status text (broken_off why t h) = inl refl
  live_why status text (all_served why due t some h apart at_end) = stopped_why why due t h apart at_end
