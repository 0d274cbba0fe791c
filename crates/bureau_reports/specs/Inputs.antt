-- Which status and which text a report on an input comes to.
use Rattle.std.specs.Prelude.{◌≡◌, ◌⊎◌, ℕ, List, [], ◌∷◌}
use Rattle.std.specs.Str.Lines.{lines}
use Rattle.setoff_model.specs.CutView.{CutView, OutcomeView, obligations}
use Rattle.setoff_model.specs.Setoff.{Proves}
use Rattle.setoff_checker.specs.declared.verdict.Verdict.{Verdict}
use Rattle.setoff_checker.specs.Verdicts.{IsVerdict}
use Rattle.chain_text.specs.chain_explain.specs.Chains.{ChainView, Explains}
use Rattle.weighed_round.specs.claim_history.specs.declared.act.Act.{Act}
use Rattle.weighed_round.specs.statement_text.specs.declared.error.StatementCause.{StatementCause}
use Rattle.weighed_round.specs.statement_text.specs.Causes.{HasCause}
use Rattle.weighed_round.specs.statement_text.specs.Statements.{IsStatement, IsFirstBadLine}
use Rattle.weighed_round.specs.firm_notices.specs.declared.error.RowCause.{RowCause}
use Rattle.weighed_round.specs.firm_notices.specs.Invoices.{IsFirstBadRow, IsInvoiceText, import_text}
use Rattle.weighed_round.specs.printed_text.specs.declared.exit_status.ExitStatus.{ExitStatus}
use Rattle.weighed_round.specs.printed_text.specs.declared.exit_status.ExitStatus.TheVariants as statuses
use Rattle.weighed_round.specs.printed_text.specs.Texts.{bad_row_text, bad_statement_text, memory_text, verdict_text, verdict_status}
use Rattle.chain_text.specs.Texts.{chains_text}
use Rattle.command_words.specs.declared.input_report.InputReport.{InputReport}
use Rattle.command_words.specs.declared.input_report.InputReport.TheVariants as inputs

-- ---- the form of an input

-- the input states a cut and an outcome
abbrev pub IsStated : List ℕ → Type 0
IsStated input = (cut : CutView) × (outcome : OutcomeView) × IsStatement (lines input) cut outcome

-- the input of the report is in its form
abbrev pub IsInForm : InputReport → List ℕ → Type 0
IsInForm inputs.Check input = IsStated input
IsInForm inputs.Explain input = IsStated input
IsInForm (inputs.Import lane) input = (filings : List Act) × IsInvoiceText input filings

-- the fault line of the first line that is not in the grammar of statements
pub record IsBadStatementTold (input text : List ℕ) : Type 0 where
  pub line : ℕ
  pub cause : StatementCause
  pub first : IsFirstBadLine (lines input) line
  pub has : HasCause (lines input) line cause
  pub text_is : text ≡ bad_statement_text line cause

-- the fault line of the first row that is not in the grammar of invoices
pub record IsBadRowTold (input text : List ℕ) : Type 0 where
  pub row : ℕ
  pub cause : RowCause
  pub first : IsFirstBadRow input row cause
  pub text_is : text ≡ bad_row_text row cause

-- the fault line of an input that is not in the form of the report
abbrev pub IsFormFault : InputReport → List ℕ → List ℕ → Type 0
IsFormFault inputs.Check input text = IsBadStatementTold input text
IsFormFault inputs.Explain input text = IsBadStatementTold input text
IsFormFault (inputs.Import lane) input text = IsBadRowTold input text

-- ---- what is told of one that is

-- the verdict on the one cut and outcome that the input states
pub record IsJudged (input : List ℕ) (status : ExitStatus) (text : List ℕ) : Type 0 where
  pub cut : CutView
  pub outcome : OutcomeView
  pub stated : IsStatement (lines input) cut outcome
  pub verdict : Verdict
  pub verdict_is : IsVerdict cut outcome verdict
  pub status_is : status ≡ verdict_status verdict
  pub text_is : text ≡ verdict_text cut verdict

-- chains that explain the discharges that it states, which are proved
pub record IsExplained (input : List ℕ) (text : List ℕ) : Type 0 where
  pub cut : CutView
  pub outcome : OutcomeView
  pub stated : IsStatement (lines input) cut outcome
  pub proved : Proves (obligations cut) outcome.discharges outcome.prices
  pub chains : List ChainView
  pub explain : Explains (obligations cut) outcome.discharges chains
  pub text_is : text ≡ chains_text cut chains

-- what the report tells: the verdict; the chains, or a verdict that the discharges are not proved; the lines that file invoices
abbrev pub IsTold : InputReport → List ℕ → ExitStatus → List ℕ → Type 0
IsTold inputs.Check input status text = IsJudged input status text
IsTold inputs.Explain input status text = ((status ≡ statuses.No) × IsJudged input status text)
    ⊎ ((status ≡ statuses.Done) × IsExplained input text)
IsTold (inputs.Import lane) input status text = (filings : List Act) × IsInvoiceText input filings × (status ≡ statuses.Done)
    × (text ≡ import_text lane filings)

-- there was no memory; the input is not in form; or it is, and this is told of it
pub data IsInputDue (report : InputReport) (input : List ℕ) : ExitStatus → List ℕ → Type 0 where
  no_report_memory : IsInputDue report input statuses.Memory memory_text
  out_of_form : (text : List ℕ) → IsFormFault report input text → (IsInForm report input → ⊥) → IsInputDue report input statuses.Form text
  reported : (status : ExitStatus) (text : List ℕ) → IsTold report input status text → IsInputDue report input status text

-- the statuses that a report on an input has, and that of a sink that failed
abbrev pub input_statuses : List ExitStatus
input_statuses = statuses.Sink ∷ statuses.Done ∷ statuses.No ∷ statuses.Form ∷ statuses.Memory ∷ []
