-- What is told of a round that a Close would publish now.
use Rattle.std.specs.Prelude.{Option}
use Rattle.std.proofs.Common.{◌≡◌, ℕ, List, ap, subst}
use Rattle.setoff_model.specs.declared.kind.Kind.{Kind}
use Rattle.setoff_model.specs.CutView.{CutView, OutcomeView, obligations}
use Rattle.setoff_model.specs.Setoff.{IsOldestFirst, Proves}
use Rattle.printed_text.specs.claim_history.specs.declared.entry.Entry.{Entry}
use Rattle.printed_text.specs.statement_text.specs.Statements.{statement_bytes}
use Rattle.printed_text.specs.declared.exit_status.ExitStatus.{ExitStatus}
use Rattle.printed_text.specs.declared.exit_status.ExitStatus.TheVariants as statuses
use Rattle.printed_text.specs.Printing.{IsPrintable}
use Rattle.printed_text.specs.Texts.{memory_text}
use Rattle.printed_text.specs.Writing.{IsWritten, Wrote}
use Rattle.weighed_round.specs.Forecast.{IsForecastDue, forecast_told, next_cut_of, no_forecast_memory}

-- the statement of the next cut and of an outcome that its prices prove was written
pub wrote_next : (kind : Kind) (horizon : ℕ) (history : List Entry) (x y : Option (List ℕ)) (cut : CutView) (outcome : OutcomeView) (status : ExitStatus) → cut ≡ next_cut_of history kind horizon → IsPrintable cut outcome
    → IsOldestFirst (obligations cut) outcome.discharges → IsWritten x y statuses.Done (statement_bytes cut outcome) status → Wrote (IsForecastDue kind horizon history) x y status
wrote_next kind horizon history x y cut outcome status is printable oldest written = record {
  due = statuses.Done;
  text = statement_bytes cut outcome;
  is_due = forecast_told (statement_bytes cut outcome) (record {
    outcome = outcome;
    proves = subst (λ (c : CutView). Proves (obligations c) outcome.discharges outcome.prices) is printable.proved;
    oldest_first = subst (λ (c : CutView). IsOldestFirst (obligations c) outcome.discharges) is oldest;
    text_is = ap (λ (c : CutView). statement_bytes c outcome) is;
  });
  is_written = written;
}

-- there was no memory for it
pub wrote_no_memory : (kind : Kind) (horizon : ℕ) (history : List Entry) (x y : Option (List ℕ)) (status : ExitStatus) → IsWritten x y statuses.Memory memory_text status → Wrote (IsForecastDue kind horizon history) x y status
wrote_no_memory kind horizon history x y status written = record { due = statuses.Memory; text = memory_text; is_due = no_forecast_memory; is_written = written }
