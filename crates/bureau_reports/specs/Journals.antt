-- Which status and which text a report on a journal comes to.
use Rattle.std.specs.Prelude.{◌≡◌, ◌<◌, Bool, not, true, ℕ, List, [], ◌∷◌, ◌++◌, Option, Some, None}
use Rattle.setoff_model.specs.declared.limits.TheConstants.{MOST_ROUNDS}
use Rattle.weighed_round.specs.claim_history.specs.declared.call.PoolEntry.{PoolEntry}
use Rattle.weighed_round.specs.claim_history.specs.Facts.{Ledger, is_registered}
use Rattle.weighed_round.specs.claim_history.specs.Pools.{entries_in, ledger_in, state_in}
use Rattle.journal_texts.specs.bureau_desk.specs.declared.desk_refused.DeskCause.{DeskCause}
use Rattle.journal_texts.specs.bureau_desk.specs.Opening.{HasViewCause, HasViewed}
use Rattle.weighed_round.specs.firm_notices.specs.Notices.{notices_text}
use Rattle.weighed_round.specs.firm_notices.specs.Positions.{positions_text}
use Rattle.weighed_round.specs.printed_text.specs.declared.exit_status.ExitStatus.{ExitStatus}
use Rattle.weighed_round.specs.printed_text.specs.declared.exit_status.ExitStatus.TheVariants as statuses
use Rattle.weighed_round.specs.printed_text.specs.Texts.{memory_text}
use Rattle.weighed_round.specs.Forecast.{IsForecastText}
use Rattle.weighed_round.specs.Weighed.{IsWeighedText}
use Rattle.history_text.specs.Histories.{EndsAtPublication, IsPartsText, IsRoundText, history_text}
use Rattle.history_text.specs.Histories.{round_status, told_members, was_published}
use Rattle.history_text.specs.Since.{EndsSince, has_fewer, since_status, since_told}
use Rattle.journal_summaries.specs.Account.{account_status, account_text}
use Rattle.journal_summaries.specs.PoolList.{pools_text}
use Rattle.journal_summaries.specs.Seal.{has_acts, seal_status, seal_text}
use Rattle.command_words.specs.declared.journal_report.JournalReport.{JournalReport}
use Rattle.command_words.specs.declared.journal_report.JournalReport.TheVariants as journals
use Rattle.command_words.specs.Words.{pool_of}
use Rattle.bureau_reports.specs.DiskTexts.{opening_status, opening_text, sound_text, unsound_status, unsound_text}

-- what is known of the claims and accounts of the pool of which a report speaks
abbrev pub ledger_told : JournalReport → List PoolEntry → Ledger
ledger_told report history = ledger_in history (pool_of report)

-- what the report tells of the history that a journal holds: of all pools, or of the one of which it speaks
abbrev pub IsTextOf : JournalReport → List PoolEntry → List ℕ → Type 0
IsTextOf journals.Audit history text = text ≡ sound_text history
IsTextOf (journals.Positions pool) history text = text ≡ positions_text (ledger_told (journals.Positions pool) history)
IsTextOf (journals.Notices today pool) history text = text ≡ notices_text today (ledger_told (journals.Notices today pool) history)
IsTextOf (journals.Weigh kind today) history text = IsWeighedText kind today (ledger_told (journals.Weigh kind today) history) text
IsTextOf (journals.History pool) history text = text ≡ history_text pool history
IsTextOf (journals.Statement round pool) history text = IsRoundText round (pool_of (journals.Statement round pool)) history text
IsTextOf journals.Pools history text = text ≡ pools_text history
IsTextOf (journals.Since acts pool) history text = text ≡ since_told acts pool history
IsTextOf (journals.Seal acts) history text = text ≡ seal_text acts history
IsTextOf (journals.Account firm pool) history text = text ≡ account_text (pool_of (journals.Account firm pool)) firm history
IsTextOf (journals.Parts round pool) history text = IsPartsText round (pool_of (journals.Parts round pool)) history text
IsTextOf (journals.Forecast kind horizon pool) history text =
    IsForecastText kind horizon (entries_in (pool_of (journals.Forecast kind horizon pool)) history) text

-- the history has what the report asks for: the round of a statement or of its pages, the firm of a register, so many acts
abbrev pub has_asked : JournalReport → List PoolEntry → Bool
has_asked journals.Audit history = true
has_asked (journals.Positions pool) history = true
has_asked (journals.Notices today pool) history = true
has_asked (journals.Weigh kind today) history = true
has_asked (journals.History pool) history = true
has_asked (journals.Statement round pool) history = was_published round (pool_of (journals.Statement round pool)) history
has_asked journals.Pools history = true
has_asked (journals.Since acts pool) history = not (has_fewer acts history)
has_asked (journals.Seal acts) history = has_acts acts history
has_asked (journals.Account firm pool) history = is_registered (ledger_told (journals.Account firm pool) history) firm
has_asked (journals.Parts round pool) history = was_published round (pool_of (journals.Parts round pool)) history
has_asked (journals.Forecast kind horizon pool) history = true

-- the status of that: `No` where the history does not have what the report asks for
abbrev pub report_status : JournalReport → List PoolEntry → ExitStatus
report_status journals.Audit history = statuses.Done
report_status (journals.Positions pool) history = statuses.Done
report_status (journals.Notices today pool) history = statuses.Done
report_status (journals.Weigh kind today) history = statuses.Done
report_status (journals.History pool) history = statuses.Done
report_status (journals.Statement round pool) history = round_status round (pool_of (journals.Statement round pool)) history
report_status journals.Pools history = statuses.Done
report_status (journals.Since acts pool) history = since_status acts history
report_status (journals.Seal acts) history = seal_status acts history
report_status (journals.Account firm pool) history = account_status (pool_of (journals.Account firm pool)) firm history
report_status (journals.Parts round pool) history = round_status round (pool_of (journals.Parts round pool)) history
report_status (journals.Forecast kind horizon pool) history = statuses.Done

-- the firm whose register the report is, if it is one
abbrev pub firm_of : JournalReport → Option (List ℕ)
firm_of (journals.Account firm pool) = Some firm
firm_of _ = None

-- the report makes its text of the books, and whole before it is printed
abbrev pub IsMade : JournalReport → Type 0
IsMade journals.Audit = Unit {0}
IsMade (journals.Positions pool) = Unit {0}
IsMade (journals.Notices today pool) = Unit {0}
IsMade (journals.Weigh kind today) = Unit {0}
IsMade (journals.History pool) = ⊥
IsMade (journals.Statement round pool) = ⊥
IsMade journals.Pools = Unit {0}
IsMade (journals.Since acts pool) = ⊥
IsMade (journals.Seal acts) = Unit {0}
IsMade (journals.Account firm pool) = ⊥
IsMade (journals.Parts round pool) = ⊥
IsMade (journals.Forecast kind horizon pool) = ⊥

-- what is printed before memory is missing of a report that is printed entry by entry
abbrev pub IsReportFront : JournalReport → List PoolEntry → List ℕ → Type 0
IsReportFront journals.Audit history printed = ⊥
IsReportFront (journals.Positions pool) history printed = ⊥
IsReportFront (journals.Notices today pool) history printed = ⊥
IsReportFront (journals.Weigh kind today) history printed = ⊥
IsReportFront (journals.History pool) history printed = EndsAtPublication (told_members pool history) printed
IsReportFront (journals.Statement round pool) history printed = ⊥
IsReportFront journals.Pools history printed = ⊥
IsReportFront (journals.Since acts pool) history printed = EndsSince acts pool history printed
IsReportFront (journals.Seal acts) history printed = ⊥
IsReportFront (journals.Account firm pool) history printed = ⊥
IsReportFront (journals.Parts round pool) history printed = ⊥
IsReportFront (journals.Forecast kind horizon pool) history printed = ⊥

-- fewer rounds of each pool were opened than a round can have a number
abbrev pub HasFewOpenings : List PoolEntry → Type 0
HasFewOpenings history = (pool : List ℕ) → (state_in history pool).openings < MOST_ROUNDS

-- this, or there was no memory for it, or for the rest of it
pub data IsBookDue (report : JournalReport) (history : List PoolEntry) : ExitStatus → List ℕ → Type 0 where
  no_text_memory : IsBookDue report history statuses.Memory memory_text
  broken_off : (printed : List ℕ) → IsReportFront report history printed → IsBookDue report history statuses.Memory (printed ++ memory_text)
  made : (text : List ℕ) → IsTextOf report history text → IsBookDue report history (report_status report history) text

-- the status and the text where there are no books: an audit tells the act that is refused or full, the others a fault of the journal
abbrev pub unviewed_status : JournalReport → DeskCause → ExitStatus
unviewed_status journals.Audit cause = unsound_status cause
unviewed_status (journals.Positions pool) cause = opening_status cause
unviewed_status (journals.Notices today pool) cause = opening_status cause
unviewed_status (journals.Weigh kind today) cause = opening_status cause
unviewed_status (journals.History pool) cause = opening_status cause
unviewed_status (journals.Statement round pool) cause = opening_status cause
unviewed_status journals.Pools cause = opening_status cause
unviewed_status (journals.Since acts pool) cause = opening_status cause
unviewed_status (journals.Seal acts) cause = opening_status cause
unviewed_status (journals.Account firm pool) cause = opening_status cause
unviewed_status (journals.Parts round pool) cause = opening_status cause
unviewed_status (journals.Forecast kind horizon pool) cause = opening_status cause

abbrev pub unviewed_text : JournalReport → DeskCause → List ℕ
unviewed_text journals.Audit cause = unsound_text cause
unviewed_text (journals.Positions pool) cause = opening_text cause
unviewed_text (journals.Notices today pool) cause = opening_text cause
unviewed_text (journals.Weigh kind today) cause = opening_text cause
unviewed_text (journals.History pool) cause = opening_text cause
unviewed_text (journals.Statement round pool) cause = opening_text cause
unviewed_text journals.Pools cause = opening_text cause
unviewed_text (journals.Since acts pool) cause = opening_text cause
unviewed_text (journals.Seal acts) cause = opening_text cause
unviewed_text (journals.Account firm pool) cause = opening_text cause
unviewed_text (journals.Parts round pool) cause = opening_text cause
unviewed_text (journals.Forecast kind horizon pool) cause = opening_text cause

-- Of a disk that is told to have these bytes, and whose counts were these before and after: there was no memory; the journal was
-- replayed, and this is told of its history, or as much as there was memory for; or why there are no books.
pub data IsJournalDue (report : JournalReport) (tells : Bool) (bytes : List ℕ) (low high : ℕ) : ExitStatus → List ℕ → Type 0 where
  no_view_memory : IsJournalDue report tells bytes low high statuses.Memory memory_text
  viewed : (history : List PoolEntry) → HasViewed tells bytes history → (text : List ℕ) → IsTextOf report history text
      → IsJournalDue report tells bytes low high (report_status report history) text
  begun : (history : List PoolEntry) → HasViewed tells bytes history → (printed : List ℕ) → IsReportFront report history printed
      → IsJournalDue report tells bytes low high statuses.Memory (printed ++ memory_text)
  unviewed : (cause : DeskCause) → HasViewCause tells bytes low high cause
      → IsJournalDue report tells bytes low high (unviewed_status report cause) (unviewed_text report cause)

-- the statuses that a report on a journal has, and that of a sink that failed
abbrev pub journal_statuses : List ExitStatus
journal_statuses = statuses.Sink ∷ statuses.Done ∷ statuses.No ∷ statuses.Disk ∷ statuses.Unsound ∷ statuses.Memory ∷ []
