-- The round that a Close would publish now, and its statement.
use Rattle.std.specs.Prelude.{◌≡◌, ℕ, ◌+◌, List}
use Rattle.setoff_model.specs.declared.kind.Kind.{Kind}
use Rattle.setoff_model.specs.CutView.{CutView, OutcomeView, obligations}
use Rattle.setoff_model.specs.Setoff.{IsOldestFirst, Proves}
use Rattle.printed_text.specs.claim_history.specs.declared.entry.Entry.{Entry}
use Rattle.printed_text.specs.claim_history.specs.Cut.{cut_of}
use Rattle.printed_text.specs.claim_history.specs.States.{state_of}
use Rattle.printed_text.specs.statement_text.specs.Statements.{statement_bytes}
use Rattle.printed_text.specs.declared.exit_status.ExitStatus.{ExitStatus}
use Rattle.printed_text.specs.declared.exit_status.ExitStatus.TheVariants as statuses
use Rattle.printed_text.specs.Texts.{memory_text}

-- the cut that a Close of this kind and horizon would open after these entries of a pool, a round that is open being taken as ended
abbrev pub next_cut_of : List Entry → Kind → ℕ → CutView
next_cut_of history kind horizon = cut_of ((state_of history).openings + 1) (state_of history).ledger kind horizon

-- The text is the statement of that cut, with an outcome whose prices prove that no lawful set-off of it discharges more. Of two claims
-- of one debtor and one creditor the earlier is filled first.
pub record IsForecastText (kind : Kind) (horizon : ℕ) (history : List Entry) (text : List ℕ) : Type 0 where
  pub outcome : OutcomeView
  pub proves : Proves (obligations (next_cut_of history kind horizon)) outcome.discharges outcome.prices
  pub oldest_first : IsOldestFirst (obligations (next_cut_of history kind horizon)) outcome.discharges
  pub text_is : text ≡ statement_bytes (next_cut_of history kind horizon) outcome

-- it was printed, or there was no memory for it
pub data IsForecastDue (kind : Kind) (horizon : ℕ) (history : List Entry) : ExitStatus → List ℕ → Type 0 where
  forecast_told : (text : List ℕ) → IsForecastText kind horizon history text → IsForecastDue kind horizon history statuses.Done text
  no_forecast_memory : IsForecastDue kind horizon history statuses.Memory memory_text
