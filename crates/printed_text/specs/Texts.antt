-- The lines of the program's own: faults, unserved requests, verdicts.
use Rattle.std.specs.Prelude.{ℕ, ◌<◌, List, [], ◌++◌, length, codes, decimal, slice_index_or, unsigned_abs}
use Rattle.setoff_model.specs.CutView.{CutView}
use Rattle.setoff_model.specs.Texts.{cents_text}
use Rattle.served_lines.specs.limited_book.specs.declared.room.Room.{Room}
use Rattle.served_lines.specs.limited_book.specs.declared.room.Room.TheVariants.{Entries, Bytes}
use Rattle.served_lines.specs.request_text.specs.declared.error.LineCause.{LineCause}
use Rattle.served_lines.specs.request_text.specs.declared.error.LineCause.TheVariants as cause
use Rattle.firm_notices.specs.declared.error.RowCause.{RowCause}
use Rattle.firm_notices.specs.declared.error.RowCause.TheVariants as row
use Rattle.statement_text.specs.declared.error.StatementCause.{StatementCause}
use Rattle.statement_text.specs.declared.error.StatementCause.TheVariants as statement
use Rattle.served_lines.specs.setoff_checker.specs.declared.verdict.Verdict.{Verdict}
use Rattle.served_lines.specs.setoff_checker.specs.declared.verdict.Verdict.TheVariants as verdict
use Rattle.printed_text.specs.declared.exit_status.ExitStatus.{ExitStatus}
use Rattle.printed_text.specs.declared.exit_status.ExitStatus.TheVariants as statuses

-- the fault lines that have no parts
abbrev pub memory_text : List ℕ
memory_text = codes "fault memory\n"

abbrev pub words_text : List ℕ
words_text = codes "fault words\n"

abbrev pub read_text : List ℕ
read_text = codes "fault read\n"

abbrev pub too_long_text : List ℕ
too_long_text = codes "fault input too long\n"

-- one line for a line of the input that was answered as out of memory
abbrev pub memory_line : ℕ → List ℕ
memory_line line = codes "! line " ++ decimal line ++ codes " memory\n"

abbrev pub room_text : Room → List ℕ
room_text Entries = codes "entries"
room_text Bytes = codes "bytes"

-- one line for a line of the input that was full
abbrev pub full_line : ℕ → Room → ℕ → ℕ → List ℕ
full_line line what needed limit = codes "! line " ++ decimal line ++ codes " full " ++ room_text what ++ codes " " ++ decimal needed
    ++ codes " " ++ decimal limit ++ codes "\n"

-- the fault line of an input whose line is not in the grammar
abbrev pub fault_line_text : ℕ → List ℕ → List ℕ
fault_line_text line why = codes "fault line " ++ decimal line ++ codes " " ++ why ++ codes "\n"

abbrev pub cause_text : LineCause → List ℕ
cause_text cause.Lane = codes "lane"
cause_text cause.Pool = codes "pool"
cause_text cause.Verb = codes "verb"
cause_text cause.Fields = codes "fields"
cause_text (cause.Field k) = codes "field " ++ decimal k

abbrev pub bad_line_text : ℕ → LineCause → List ℕ
bad_line_text line why = fault_line_text line (cause_text why)

-- the fault line of an input of invoices whose row is not in the grammar
abbrev pub row_cause_text : RowCause → List ℕ
row_cause_text row.Header = codes "header"
row_cause_text row.Fields = codes "fields"
row_cause_text (row.Field k) = codes "field " ++ decimal k

abbrev pub bad_row_text : ℕ → RowCause → List ℕ
bad_row_text number why = codes "fault row " ++ decimal number ++ codes " " ++ row_cause_text why ++ codes "\n"

abbrev pub statement_cause_text : StatementCause → List ℕ
statement_cause_text statement.Round = codes "round"
statement_cause_text statement.After = codes "after"
statement_cause_text statement.Shape = codes "shape"
statement_cause_text statement.Limit = codes "limit"
statement_cause_text statement.Repeat = codes "repeat"
statement_cause_text statement.NoParty = codes "party"
statement_cause_text statement.SameFirm = codes "same-firm"
statement_cause_text statement.Window = codes "window"
statement_cause_text statement.NoEnd = codes "end"

abbrev pub bad_statement_text : ℕ → StatementCause → List ℕ
bad_statement_text line why = fault_line_text line (statement_cause_text why)

-- the creditor and the invoice of the claim at a place, and the firm of the party at a place
abbrev pub creditor_at : CutView → ℕ → List ℕ
creditor_at cut c = (slice_index_or cut.claims c
    (record { key = record { creditor = []; invoice = [] }; debtor = 0; creditor = 0; amount = 0 })).key.creditor

abbrev pub invoice_at : CutView → ℕ → List ℕ
invoice_at cut c = (slice_index_or cut.claims c (record {
  key = record { creditor = []; invoice = [] };
  debtor = 0;
  creditor = 0;
  amount = 0;
})).key.invoice

abbrev pub firm_at : CutView → ℕ → List ℕ
firm_at cut f = (slice_index_or cut.parties f (record { firm = []; spend = 0; room = 0 })).firm

-- yes with the total, or no with the first claim or firm, or with total and bound
abbrev pub verdict_words : CutView → Verdict → List ℕ
verdict_words cut (verdict.Greatest total) = codes "yes " ++ cents_text total
verdict_words cut verdict.Lengths = codes "no lengths"
verdict_words cut (verdict.OverAmount claim) = codes "no over-amount " ++ creditor_at cut claim ++ codes " " ++ invoice_at cut claim
verdict_words cut (verdict.OutsideWindow party) = codes "no outside-window " ++ firm_at cut party
verdict_words cut (verdict.PriceRange party) = codes "no price-range " ++ firm_at cut party
verdict_words cut (verdict.NotProved total limit) = codes "no not-proved " ++ cents_text total ++ codes " "
    ++ cents_text (unsigned_abs limit)

-- the verdict line
abbrev pub verdict_text : CutView → Verdict → List ℕ
verdict_text cut v = verdict_words cut v ++ codes "\n"

-- the set-off was found greatest, or not
abbrev pub verdict_status : Verdict → ExitStatus
verdict_status (verdict.Greatest total) = statuses.Done
verdict_status _ = statuses.No

-- the verdict's claim or party is one of the cut's
abbrev pub IsPlaced : CutView → Verdict → Type 0
IsPlaced cut (verdict.OverAmount claim) = claim < length cut.claims
IsPlaced cut (verdict.OutsideWindow party) = party < length cut.parties
IsPlaced cut (verdict.PriceRange party) = party < length cut.parties
IsPlaced cut _ = Unit {0}
