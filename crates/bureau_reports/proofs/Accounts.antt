-- The register of a firm as a report tells it.
use Rattle.std.specs.Prelude.{Option, Some, None}
use Rattle.std.proofs.Common.{◌≡◌, ℕ, Bool, List, subst}
use Rattle.weighed_round.specs.claim_history.specs.declared.call.Call.{Call}
use Rattle.weighed_round.specs.claim_history.specs.declared.call.PoolEntry.{PoolEntry}
use Rattle.weighed_round.specs.claim_history.specs.Pools.{answered, due_reply}
use Rattle.setoff_model.specs.CutView.{CutView}
use Rattle.journal_texts.specs.bureau_desk.specs.journal_replay.specs.Replays.{IsReplayed, published_cut}
use Rattle.journal_summaries.specs.Replay.{EndsWith}
use Rattle.weighed_round.specs.printed_text.specs.declared.exit_status.ExitStatus.{ExitStatus}
use Rattle.weighed_round.specs.printed_text.specs.Writing.{IsWritten, Wrote}
use Rattle.command_words.specs.declared.journal_report.JournalReport.{JournalReport}
use Rattle.command_words.specs.declared.journal_report.JournalReport.TheVariants as journals
use Rattle.command_words.specs.Words.{pool_of}
use Rattle.bureau_reports.specs.Accounts.{IsAccount, TellsJournal}
use Rattle.bureau_reports.specs.Journals.{IsJournalDue, IsTextOf, firm_of, report_status, viewed}
use Rattle.bureau_reports.specs.declared.account.Told.{Told}
use Rattle.bureau_reports.proofs.Written.{written_as, wrote_line}

-- after the call of a record the history ends with its member
pub ends_with : (before after : List PoolEntry) (call : Call) (cut : Option CutView) → IsReplayed before after call → cut ≡ published_cut before call → EndsWith after cut
ends_with before after call cut done cut_is = record {
  before = before;
  last = answered call (due_reply before call);
  parts = done.history;
  accepted = done.accepted;
  cut_is = cut_is;
}

none_some : {X : Type 0} (x : X) → None ≡ Some x → ⊥
none_some x e = cc e

-- the register of the firm is what the report tells
pub account_due : (report : JournalReport) (firm : List ℕ) (history : List PoolEntry) (told : Told) → firm_of report ≡ Some firm → IsAccount (pool_of report) firm history told
    → IsTextOf report history told.text.items × (told.status ≡ report_status report history)
account_due (journals.Account own pool) firm history told is account =
    let same : firm ≡ own = cc is in
    let here : IsAccount (pool_of (journals.Account own pool)) own history told = subst (λ (f : List ℕ). IsAccount (pool_of (journals.Account own pool)) f history told) same account in
    (here.text_is, here.status_is)
account_due journals.Audit firm history told is account = absurd (none_some firm is)
account_due (journals.Positions pool) firm history told is account = absurd (none_some firm is)
account_due (journals.Notices today pool) firm history told is account = absurd (none_some firm is)
account_due (journals.Weigh kind today) firm history told is account = absurd (none_some firm is)
account_due (journals.History pool) firm history told is account = absurd (none_some firm is)
account_due (journals.Statement round pool) firm history told is account = absurd (none_some firm is)
account_due journals.Pools firm history told is account = absurd (none_some firm is)
account_due (journals.Since acts pool) firm history told is account = absurd (none_some firm is)
account_due (journals.Seal acts) firm history told is account = absurd (none_some firm is)
account_due (journals.Parts round pool) firm history told is account = absurd (none_some firm is)
account_due (journals.Forecast kind horizon pool) firm history told is account = absurd (none_some firm is)

-- the register of the pool of which the report speaks
pub told_by : (report : JournalReport) (firm : List ℕ) (tells : Bool) (bytes pool : List ℕ) (told : Told) → pool ≡ pool_of report → TellsJournal tells bytes pool firm told → TellsJournal tells bytes (pool_of report) firm told
told_by report firm tells bytes pool told is t = subst (λ (p : List ℕ). TellsJournal tells bytes p firm told) is t

module _ (report : JournalReport) (firm : List ℕ) (is : firm_of report ≡ Some firm) (tells : Bool) (bytes : List ℕ) (told : Told) (t : TellsJournal tells bytes (pool_of report) firm told) where
  pub status_is : told.status ≡ report_status report t.history
  status_is = (account_due report firm t.history told is t.account).1

  -- it was written with its status
  pub wrote_account : (low high : ℕ) (x y : Option (List ℕ)) (said : List ℕ) (status : ExitStatus) → said ≡ told.text.items → IsWritten x y told.status said status → Wrote (IsJournalDue report tells bytes low high) x y status
  wrote_account low high x y said status said_is written =
      wrote_line (IsJournalDue report tells bytes low high) x y (report_status report t.history) told.text.items status
      (viewed t.history t.has told.text.items (account_due report firm t.history told is t.account).0)
      (written_as x y (report_status report t.history) told.status told.text.items said status status_is said_is written)
