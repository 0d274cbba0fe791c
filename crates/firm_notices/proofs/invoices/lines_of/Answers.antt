use Rattle.std.proofs.Common.{◌≡◌, ◌∷◌, ◌+◌, arith}
use Rattle.csv.specs.Records.{fields_of}
use Rattle.firm_notices.specs.Invoices.{invoice_names, HasCause, IsFirstBadRow, OnBadRow}
use Rattle.firm_notices.proofs.Importing.{reads_on, reads_all, reads_bad, row_fits, bad_row, handed_on}
use Rattle.firm_notices.proofs.invoices.lines_of.Goals as goal

pub overflow_add-row : goal.overflow_add-row
overflow_add-row c =
    let read = c.rows.invariant.read in
    let moved = rw c.if-branch.true at (c.in_ok-next_row.ensures c.args.input.now (invoice_names ∷ read.rows) read.stands) in
    let fits = row_fits c.args.input.now c.args.lane c.rows.row c.rows.reader c.next_row.new.reader c.rows.text.items (fields_of c.next_row.new.row) read moved.0 in
    omega (arith, fits, c.size_of-size.ensures)

pub rows-smaller : goal.rows-smaller
rows-smaller c =
    let read = c.rows.invariant.read in
    let moved = rw c.if-branch.true at (c.in_ok-next_row.ensures c.args.input.now (invoice_names ∷ read.rows) read.stands) in
    moved.1

pub rows-preserved : goal.rows-preserved
rows-preserved c =
    let read = c.rows.invariant.read in
    let moved = rw c.if-branch.true at (c.in_ok-next_row.ensures c.args.input.now (invoice_names ∷ read.rows) read.stands) in
    record { read = reads_on c.args.input.now c.args.lane c.rows.row c.rows.reader c.next_row.new.reader c.rows.text.items c.put_filing.new.text.items (fields_of c.next_row.new.row) read moved.0 c.in_ok-put_filing.ensures.put }

pub returns-in_err-put_filing-clause-bad : goal.returns-in_err-put_filing-clause-bad
returns-in_err-put_filing-clause-bad c =
    let bytes = c.args.input.now in
    let read = c.rows.invariant.read in
    let fields = fields_of c.next_row.new.row in
    let moved = rw c.if-branch.true at (c.in_ok-next_row.ensures bytes (invoice_names ∷ read.rows) read.stands) in
    let bad = bad_row (λ number why. (number ≡ c.rows.row + 1) × HasCause fields why) (IsFirstBadRow bytes) c.in_err-put_filing.field-0.0
    (λ number why h. reads_bad bytes c.args.lane c.rows.row number c.rows.reader c.next_row.new.reader c.rows.text.items fields why read moved.0 h.0 h.1) c.in_err-put_filing.ensures.bad in
    handed_on (OnBadRow (IsFirstBadRow bytes)) c.from_residual-in_err-put_filing.result c.in_err-put_filing.field-0.0 c.from_residual-in_err-put_filing.ensures.1 bad

pub returns-clause-read : goal.returns-clause-read
returns-clause-read c =
    let read = c.rows.invariant.read in
    let all = rw c.if-branch.false at (c.in_ok-next_row.ensures c.args.input.now (invoice_names ∷ read.rows) read.stands) in
    reads_all c.args.input.now c.args.lane c.rows.row c.rows.reader c.rows.text.items read all
