use Rattle.std.proofs.Common.{take, ◌∷◌, map}
use Rattle.claim_book.specs.Book.{ledger_of}
use Rattle.claim_book.specs.claim_history.specs.Facts.{position_of}
use Rattle.firm_notices.specs.Tables.{HoldsText, csv_text}
use Rattle.firm_notices.specs.Positions.{position_names, position_fields}
use Rattle.firm_notices.proofs.firms.positions.Given as goal

abbrev pub invariant-loop-account : goal.invariant-loop-account
invariant-loop-account l = record { held : HoldsText l.table (csv_text (position_names ∷ map (λ a. position_fields a (position_of (ledger_of l.book.history) a.firm)) (take l.account-index l.accounts))) }
