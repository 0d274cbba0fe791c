-- What is told of books.
use Rattle.std.specs.Prelude.{Option}
use Rattle.std.proofs.Common.{◌≡◌, ◌∙◌, ℕ, Bool, List, ap, refl, subst, sym, arith}
use Rattle.setoff_model.specs.declared.kind.Kind.{Kind}
use Rattle.weighed_round.specs.claim_history.specs.declared.call.PoolEntry.{PoolEntry}
use Rattle.weighed_round.specs.claim_history.specs.declared.entry.Entry.{Entry}
use Rattle.weighed_round.specs.claim_history.specs.PoolNeeds.{IsWithinLimits}
use Rattle.weighed_round.specs.claim_history.specs.Pools.{IsLegal, entries_in}
use Rattle.weighed_round.specs.claim_history.proofs.PoolRoom.{room_law}
use Rattle.journal_texts.specs.bureau_desk.specs.Opening.{HasViewed}
use Rattle.weighed_round.specs.printed_text.specs.served_lines.specs.limited_book.proofs.Limits.{few_openings}
use Rattle.command_words.specs.declared.journal_report.JournalReport.{JournalReport}
use Rattle.command_words.specs.declared.journal_report.JournalReport.TheVariants as journals
use Rattle.command_words.specs.Words.{pool_of}
use Rattle.history_text.specs.Since.{IsSinceDue, news_short, news_told, since_told}
use Rattle.weighed_round.specs.Forecast.{IsForecastDue, forecast_told, no_forecast_memory}
use Rattle.history_text.specs.Histories.{IsHistoryDue, IsPartsDue, IsRoundDue, all_told, cut_short, no_round_memory, round_told, history_text}
use Rattle.weighed_round.specs.printed_text.specs.declared.exit_status.ExitStatus.{ExitStatus}
use Rattle.weighed_round.specs.printed_text.specs.declared.exit_status.ExitStatus.TheVariants as statuses
use Rattle.weighed_round.specs.printed_text.specs.Writing.{IsWritten, Wrote}
use Rattle.bureau_reports.specs.Journals.{HasFewOpenings, IsBookDue, IsMade, IsTextOf, broken_off, made, no_text_memory, report_status}
use Rattle.bureau_reports.proofs.Written.{wrote_for, wrote_line}

-- a text that was made was written with its status
pub wrote_made : (report : JournalReport) (history : List PoolEntry) (x y : Option (List ℕ)) (text : List ℕ) (status : ExitStatus) → IsTextOf report history text → IsWritten x y (report_status report history) text status → Wrote (IsBookDue report history) x y status
wrote_made report history x y text status told written = wrote_line (IsBookDue report history) x y (report_status report history) text status (made text told) written

-- the report is one of these
pub is_made : (report r : JournalReport) → report ≡ r → IsMade r → IsMade report
is_made report r is made_one = subst IsMade (sym is) made_one

-- a history
history_due : (pool : Option (List ℕ)) (history : List PoolEntry) (due : ExitStatus) (text : List ℕ) → IsHistoryDue pool history due text → IsBookDue (journals.History pool) history due text
history_due pool history due text all_told = made (history_text pool history) refl
history_due pool history due text (cut_short printed ends) = broken_off printed ends

pub wrote_history : (report : JournalReport) (pool : Option (List ℕ)) (history : List PoolEntry) (x y : Option (List ℕ)) (status : ExitStatus) → report ≡ journals.History pool → Wrote (IsHistoryDue pool history) x y status → Wrote (IsBookDue report history) x y status
wrote_history report pool history x y status is w =
    subst (λ (r : JournalReport). Wrote (IsBookDue r history) x y status) (sym is) (wrote_for (IsHistoryDue pool history) (IsBookDue (journals.History pool) history) x y status (history_due pool history) w)

-- the statement of a round
round_due : (round : ℕ) (pool : Option (List ℕ)) (history : List PoolEntry) (due : ExitStatus) (text : List ℕ) → IsRoundDue round (pool_of (journals.Statement round pool)) history due text → IsBookDue (journals.Statement round pool) history due text
round_due round pool history due text (round_told t is) = made t is
round_due round pool history due text no_round_memory = no_text_memory

pub wrote_round : (report : JournalReport) (round : ℕ) (pool : Option (List ℕ)) (name : List ℕ) (history : List PoolEntry) (x y : Option (List ℕ)) (status : ExitStatus) → report ≡ journals.Statement round pool → name ≡ pool_of report
    → Wrote (IsRoundDue round name history) x y status → Wrote (IsBookDue report history) x y status
wrote_round report round pool name history x y status is named w =
    let own : Wrote (IsRoundDue round (pool_of (journals.Statement round pool)) history) x y status = subst (λ (p : List ℕ). Wrote (IsRoundDue round p history) x y status) (named ∙ ap pool_of is) w in
    subst (λ (r : JournalReport). Wrote (IsBookDue r history) x y status) (sym is)
    (wrote_for (IsRoundDue round (pool_of (journals.Statement round pool)) history) (IsBookDue (journals.Statement round pool) history) x y status (round_due round pool history) own)

-- what came since
since_due : (acts : ℕ) (pool : Option (List ℕ)) (history : List PoolEntry) (due : ExitStatus) (text : List ℕ) → IsSinceDue acts pool history due text → IsBookDue (journals.Since acts pool) history due text
since_due acts pool history due text news_told = made (since_told acts pool history) refl
since_due acts pool history due text (news_short printed ends) = broken_off printed ends

pub wrote_since : (report : JournalReport) (acts : ℕ) (pool : Option (List ℕ)) (history : List PoolEntry) (x y : Option (List ℕ)) (status : ExitStatus) → report ≡ journals.Since acts pool → Wrote (IsSinceDue acts pool history) x y status → Wrote (IsBookDue report history) x y status
wrote_since report acts pool history x y status is w =
    subst (λ (r : JournalReport). Wrote (IsBookDue r history) x y status) (sym is) (wrote_for (IsSinceDue acts pool history) (IsBookDue (journals.Since acts pool) history) x y status (since_due acts pool history) w)

-- the pages of a round
parts_due : (round : ℕ) (pool : Option (List ℕ)) (history : List PoolEntry) (due : ExitStatus) (text : List ℕ) → IsPartsDue round (pool_of (journals.Parts round pool)) history due text → IsBookDue (journals.Parts round pool) history due text
parts_due round pool history due text (round_told t is) = made t is
parts_due round pool history due text no_round_memory = no_text_memory

pub wrote_parts : (report : JournalReport) (round : ℕ) (pool : Option (List ℕ)) (name : List ℕ) (history : List PoolEntry) (x y : Option (List ℕ)) (status : ExitStatus) → report ≡ journals.Parts round pool → name ≡ pool_of report
    → Wrote (IsPartsDue round name history) x y status → Wrote (IsBookDue report history) x y status
wrote_parts report round pool name history x y status is named w =
    let own : Wrote (IsPartsDue round (pool_of (journals.Parts round pool)) history) x y status = subst (λ (p : List ℕ). Wrote (IsPartsDue round p history) x y status) (named ∙ ap pool_of is) w in
    subst (λ (r : JournalReport). Wrote (IsBookDue r history) x y status) (sym is)
    (wrote_for (IsPartsDue round (pool_of (journals.Parts round pool)) history) (IsBookDue (journals.Parts round pool) history) x y status (parts_due round pool history) own)

-- a forecast
forecast_due : (kind : Kind) (horizon : ℕ) (pool : Option (List ℕ)) (history : List PoolEntry) (due : ExitStatus) (text : List ℕ)
    → IsForecastDue kind horizon (entries_in (pool_of (journals.Forecast kind horizon pool)) history) due text → IsBookDue (journals.Forecast kind horizon pool) history due text
forecast_due kind horizon pool history due text (forecast_told t is) = made t is
forecast_due kind horizon pool history due text no_forecast_memory = no_text_memory

pub wrote_forecast : (report : JournalReport) (kind : Kind) (horizon : ℕ) (pool : Option (List ℕ)) (entries : List Entry) (history : List PoolEntry) (x y : Option (List ℕ)) (status : ExitStatus) → report ≡ journals.Forecast kind horizon pool
    → entries ≡ entries_in (pool_of report) history → Wrote (IsForecastDue kind horizon entries) x y status → Wrote (IsBookDue report history) x y status
wrote_forecast report kind horizon pool entries history x y status is are w =
    let own : Wrote (IsForecastDue kind horizon (entries_in (pool_of (journals.Forecast kind horizon pool)) history)) x y status =
    subst (λ (es : List Entry). Wrote (IsForecastDue kind horizon es) x y status) (are ∙ ap (λ (r : JournalReport). entries_in (pool_of r) history) is) w in
    subst (λ (r : JournalReport). Wrote (IsBookDue r history) x y status) (sym is)
    (wrote_for (IsForecastDue kind horizon (entries_in (pool_of (journals.Forecast kind horizon pool)) history)) (IsBookDue (journals.Forecast kind horizon pool) history) x y status (forecast_due kind horizon pool history) own)

-- ---- how many rounds were opened

pub few_opened : (tells : Bool) (bytes : List ℕ) (history : List PoolEntry) → IsLegal history → HasViewed tells bytes history → HasFewOpenings history
few_opened tells bytes history legal has pool =
    let room = room_law history legal (subst IsWithinLimits (sym has.history_is) has.sound.within) in
    omega (arith, few_openings history pool, room.entries)
