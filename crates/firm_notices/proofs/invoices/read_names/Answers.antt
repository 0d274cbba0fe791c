use Rattle.std.proofs.Common.{[], refl}
use Rattle.csv.specs.Records.{fields_of}
use Rattle.firm_notices.specs.Invoices.{invoice_names}
use Rattle.firm_notices.proofs.Importing.{no_rows, other_row}
use Rattle.firm_notices.proofs.invoices.read_names.Goals as goal
use Rattle.firm_notices.proofs.invoices.read_names.Goals.{else-found-via-then-found+else-has_names, else-found-via-else-found}

pub returns-clause-bad : goal.returns-clause-bad
returns-clause-bad c = elim c.else-found.branch [
  | else-found-via-then-found+else-has_names w ↦
      let moved = rw w.if-found.true at (c.in_ok-found.ensures c.args.input.now [] c.requires) in
      (refl, other_row c.args.input.now (fields_of c.next_row.new.row) invoice_names (w.has_names.ensures.no w.if-has_names.false) (c.next_row.new.reader.state, moved.0.rest, moved.0.given))
  | else-found-via-else-found w ↦
      let moved = rw w.if-found.false at (c.in_ok-found.ensures c.args.input.now [] c.requires) in
      (refl, no_rows c.args.input.now invoice_names moved)
]
