-- What is told of a disk that was read.
use Rattle.std.specs.Prelude.{Option, not, if◌then◌else◌}
use Rattle.std.proofs.Common.{◌≡◌, ◌∙◌, ◌⊎◌, ⊎_elim, inl, inr, ℕ, ◌≤◌, Bool, true, false, List, [], ◌∷◌, refl, subst, sym, true≢false, arith}
use Rattle.weighed_round.specs.fault_count.specs.Counts.{HasRisen}
use Rattle.weighed_round.specs.claim_history.specs.declared.call.PoolEntry.{PoolEntry}
use Rattle.weighed_round.specs.claim_history.specs.declared.entry.Reply.{Reply}
use Rattle.weighed_round.specs.claim_history.specs.declared.entry.Reply.TheVariants as reply
use Rattle.weighed_round.specs.claim_history.specs.History.{is_no_refusal}
use Rattle.weighed_round.specs.claim_history.specs.Laws.{IsReplyInRange}
use Rattle.journal_texts.specs.bureau_desk.specs.declared.desk_refused.DeskCause.{DeskCause}
use Rattle.journal_texts.specs.bureau_desk.specs.declared.desk_refused.DeskCause.TheVariants.{Memory, Device, BadHeader, BadRecord, BadAct, Overfull}
use Rattle.journal_texts.specs.bureau_desk.specs.Opening.{HasDeskCause, HasViewCause, HasViewed}
use Rattle.weighed_round.specs.printed_text.specs.declared.exit_status.ExitStatus.{ExitStatus}
use Rattle.weighed_round.specs.printed_text.specs.declared.exit_status.ExitStatus.TheVariants as statuses
use Rattle.weighed_round.specs.printed_text.specs.Statuses.{IsOneOf}
use Rattle.weighed_round.specs.printed_text.specs.Writing.{Wrote}
use Rattle.bureau_reports.specs.DiskTexts.{IsTellable, opening_status, unsound_status}
use Rattle.command_words.specs.declared.journal_report.JournalReport.{JournalReport}
use Rattle.command_words.specs.declared.journal_report.JournalReport.TheVariants as journals
use Rattle.bureau_reports.specs.Journals.{IsBookDue, IsJournalDue, begun, broken_off, has_asked, journal_statuses, made, no_text_memory, no_view_memory, report_status, unviewed_status, unviewed, viewed}
use Rattle.history_text.specs.Since.{has_fewer}
use Rattle.weighed_round.specs.printed_text.proofs.Statuses.{other_than}
use Rattle.bureau_reports.proofs.Written.{told_status, wrote_among}
pub use Rattle.journal_texts.proofs.Openings.{opening_among, tellable}

-- a reading has a cause as an opening has
pub as_opening : (tells : Bool) (bytes : List ℕ) (low high : ℕ) (cause : DeskCause) → HasViewCause tells bytes low high cause → HasDeskCause tells bytes low high cause
as_opening tells bytes low high Memory h = h
as_opening tells bytes low high (Device before after) h = (subst (λ (n : ℕ). n ≤ before) h.0 (omega arith), h.1, h.2)
as_opening tells bytes low high BadHeader h = h
as_opening tells bytes low high (BadRecord offset why) h = h
as_opening tells bytes low high (BadAct offset got) h = h
as_opening tells bytes low high (Overfull offset) h = h

-- ---- statuses

unsound_among : (cause : DeskCause) → IsOneOf (statuses.No ∷ statuses.Disk ∷ statuses.Unsound ∷ statuses.Memory ∷ []) (unsound_status cause)
unsound_among Memory = inr (inr (inr (inl refl)))
unsound_among (Device before after) = inr (inl refl)
unsound_among BadHeader = inr (inr (inl refl))
unsound_among (BadRecord offset why) = inr (inr (inl refl))
unsound_among (BadAct offset got) = inl refl
unsound_among (Overfull offset) = inl refl

-- an audit tells the act that is refused or full, the others the fault of an opening
unviewed_one : (report : JournalReport) → ((cause : DeskCause) → unviewed_status report cause ≡ unsound_status cause) ⊎ ((cause : DeskCause) → unviewed_status report cause ≡ opening_status cause)
unviewed_one journals.Audit = inl (λ cause. refl)
unviewed_one (journals.Positions pool) = inr (λ cause. refl)
unviewed_one (journals.Notices today pool) = inr (λ cause. refl)
unviewed_one (journals.Weigh kind today) = inr (λ cause. refl)
unviewed_one (journals.History pool) = inr (λ cause. refl)
unviewed_one (journals.Statement round pool) = inr (λ cause. refl)
unviewed_one journals.Pools = inr (λ cause. refl)
unviewed_one (journals.Since acts pool) = inr (λ cause. refl)
unviewed_one (journals.Seal acts) = inr (λ cause. refl)
unviewed_one (journals.Account firm pool) = inr (λ cause. refl)
unviewed_one (journals.Parts round pool) = inr (λ cause. refl)
unviewed_one (journals.Forecast kind horizon pool) = inr (λ cause. refl)

pub unviewed_among : (report : JournalReport) (cause : DeskCause) → IsOneOf (statuses.No ∷ statuses.Disk ∷ statuses.Unsound ∷ statuses.Memory ∷ []) (unviewed_status report cause)
unviewed_among report cause = ⊎_elim
    (λ audit. subst (IsOneOf (statuses.No ∷ statuses.Disk ∷ statuses.Unsound ∷ statuses.Memory ∷ [])) (sym (audit cause)) (unsound_among cause))
    (λ other. inr (subst (IsOneOf (statuses.Disk ∷ statuses.Unsound ∷ statuses.Memory ∷ [])) (sym (other cause)) (opening_among cause)))
    (unviewed_one report)

-- where one tells of a device, the disk's count rose
device_rose : (low high before after : ℕ) → (before ≡ low) × (after ≡ high) × HasRisen before after → HasRisen low high
device_rose low high before after counts =
    subst (λ (n : ℕ). HasRisen n high) counts.0 (subst (λ (n : ℕ). HasRisen before n) counts.1 counts.2)

view_rose : (tells : Bool) (bytes : List ℕ) (low high : ℕ) (cause : DeskCause) → HasViewCause tells bytes low high cause → (opening_status cause ≡ statuses.Disk) ⊎ (unsound_status cause ≡ statuses.Disk) → HasRisen low high
view_rose tells bytes low high Memory h disk = absurd (⊎_elim (λ e. cc) (λ e. cc) disk)
view_rose tells bytes low high (Device before after) h disk = device_rose low high before after h
view_rose tells bytes low high BadHeader h disk = absurd (⊎_elim (λ e. cc) (λ e. cc) disk)
view_rose tells bytes low high (BadRecord offset why) h disk = absurd (⊎_elim (λ e. cc) (λ e. cc) disk)
view_rose tells bytes low high (BadAct offset got) h disk = absurd (⊎_elim (λ e. cc) (λ e. cc) disk)
view_rose tells bytes low high (Overfull offset) h disk = absurd (⊎_elim (λ e. cc) (λ e. cc) disk)

pub unviewed_rose : (report : JournalReport) (tells : Bool) (bytes : List ℕ) (low high : ℕ) (cause : DeskCause) → HasViewCause tells bytes low high cause → unviewed_status report cause ≡ statuses.Disk → HasRisen low high
unviewed_rose report tells bytes low high cause h disk = ⊎_elim
    (λ audit. view_rose tells bytes low high cause h (inr (sym (audit cause) ∙ disk)))
    (λ other. view_rose tells bytes low high cause h (inl (sym (other cause) ∙ disk)))
    (unviewed_one report)

turned : (lacks : Bool) → (if lacks then statuses.No else statuses.Done) ≡ (if not lacks then statuses.Done else statuses.No)
turned true = refl
turned false = refl

-- where a history is told, the status is `Done`, or `No` where it does not have what was asked for
pub told_is : (report : JournalReport) (history : List PoolEntry) → report_status report history ≡ (if has_asked report history then statuses.Done else statuses.No)
told_is journals.Audit history = refl
told_is (journals.Positions pool) history = refl
told_is (journals.Notices today pool) history = refl
told_is (journals.Weigh kind today) history = refl
told_is (journals.History pool) history = refl
told_is (journals.Statement round pool) history = refl
told_is journals.Pools history = refl
told_is (journals.Since acts pool) history = turned (has_fewer acts history)
told_is (journals.Seal acts) history = refl
told_is (journals.Account firm pool) history = refl
told_is (journals.Parts round pool) history = refl
told_is (journals.Forecast kind horizon pool) history = refl

either_way : (has : Bool) → IsOneOf (statuses.Done ∷ statuses.No ∷ []) (if has then statuses.Done else statuses.No)
either_way true = inl refl
either_way false = inr (inl refl)

pub told_among : (report : JournalReport) (history : List PoolEntry) → IsOneOf (statuses.Done ∷ statuses.No ∷ []) (report_status report history)
told_among report history = subst (IsOneOf (statuses.Done ∷ statuses.No ∷ [])) (sym (told_is report history)) (either_way (has_asked report history))

-- ---- books

-- what is due for a book is due for the disk that has it
pub book_due : (report : JournalReport) (tells : Bool) (bytes : List ℕ) (low high : ℕ) (history : List PoolEntry) → HasViewed tells bytes history → (status : ExitStatus) (text : List ℕ)
    → IsBookDue report history status text → IsJournalDue report tells bytes low high status text
book_due report tells bytes low high history has status text no_text_memory = no_view_memory
book_due report tells bytes low high history has status text (broken_off printed is) = begun history has printed is
book_due report tells bytes low high history has status text (made t is) = viewed history has t is

-- ---- what is due

module _ (report : JournalReport) (tells : Bool) (bytes : List ℕ) (low high : ℕ) where
  abbrev dues : List ExitStatus
  dues = statuses.Done ∷ statuses.No ∷ statuses.Disk ∷ statuses.Unsound ∷ statuses.Memory ∷ []

  due_among : (status : ExitStatus) (text : List ℕ) → IsJournalDue report tells bytes low high status text → IsOneOf dues status
  due_among status text no_view_memory = inr (inr (inr (inr (inl refl))))
  due_among status text (viewed history has t is) = ⊎_elim (λ one. inl one) (λ other. inr (⊎_elim (λ no. inl no) (λ none. absurd none) other)) (told_among report history)
  due_among status text (begun history has printed is) = inr (inr (inr (inr (inl refl))))
  due_among status text (unviewed cause has) = inr (unviewed_among report cause)

  pub due_rose : (status : ExitStatus) (text : List ℕ) → IsJournalDue report tells bytes low high status text → status ≡ statuses.Disk → HasRisen low high
  due_rose status text no_view_memory disk = cc
  due_rose status text (viewed history has t is) disk = absurd (other_than statuses.Disk (statuses.Done ∷ statuses.No ∷ []) (report_status report history) refl disk (told_among report history))
  due_rose status text (begun history has printed is) disk = cc
  due_rose status text (unviewed cause has) disk = unviewed_rose report tells bytes low high cause has disk

  pub journal_among : (x y : Option (List ℕ)) (status : ExitStatus) → Wrote (IsJournalDue report tells bytes low high) x y status → IsOneOf journal_statuses status
  journal_among x y status w = wrote_among (IsJournalDue report tells bytes low high) dues x y status due_among w

  -- where one tells of the disk, its count rose
  pub journal_rose : (x y : Option (List ℕ)) (status : ExitStatus) → Wrote (IsJournalDue report tells bytes low high) x y status → status ≡ statuses.Disk → HasRisen low high
  journal_rose x y status w disk =
      ⊎_elim (λ is. due_rose w.due w.text w.is_due (sym is ∙ disk)) (λ sink. cc) (told_status x y w.due w.text status w.is_written)
