-- What is due for a statement that chains explain.
use Rattle.std.proofs.Common.{inr, ℕ, List, ap, refl, subst}
use Rattle.std.specs.Str.Lines.{lines}
use Rattle.setoff_model.specs.CutView.{CutView, OutcomeView, obligations}
use Rattle.setoff_model.specs.Setoff.{Proves}
use Rattle.weighed_round.specs.statement_text.specs.Statements.{IsStatement}
use Rattle.chain_text.specs.chain_explain.specs.Chains.{ChainView}
use Rattle.chain_text.specs.chain_explain.specs.Explained.{ChainsLaw, ExplainerView, Gives, IsDone, IsStart}
use Rattle.weighed_round.specs.printed_text.specs.declared.exit_status.ExitStatus.TheVariants as statuses
use Rattle.chain_text.specs.Texts.{chains_text}
use Rattle.command_words.specs.declared.input_report.InputReport.TheVariants as inputs
use Rattle.bureau_reports.specs.Inputs.{IsInputDue, reported}

pub explained_due : ChainsLaw → (input : List ℕ) (cut : CutView) (outcome : OutcomeView) → IsStatement (lines input) cut outcome → Proves (obligations cut) outcome.discharges outcome.prices
    → (start last : ExplainerView) → IsStart cut outcome.discharges start → (xs : List ChainView) → Gives (obligations start.cut) start xs last → IsDone (obligations start.cut) last
    → IsInputDue inputs.Explain input statuses.Done (chains_text start.cut xs)
explained_due law input cut outcome stated proved start last begins xs given ends = reported statuses.Done (chains_text start.cut xs) (inr (
  refl,
  record {
    cut = cut;
    outcome = outcome;
    stated = stated;
    proved = proved;
    chains = xs;
    explain = law.explain cut outcome.discharges start xs last begins
        (subst (λ (k : CutView). Gives (obligations k) start xs last) begins.same given) (subst (λ (k : CutView). IsDone (obligations k) last) begins.same ends);
    text_is = ap (λ (k : CutView). chains_text k xs) begins.same;
  },
))
