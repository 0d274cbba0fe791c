use Rattle.firm_notices.specs.Rows.{bytes_left}
use Rattle.firm_notices.proofs.Importing.{HasRead}
use Rattle.firm_notices.proofs.invoices.lines_of.Given as goal

abbrev pub invariant-rows : goal.invariant-rows
invariant-rows l = record { read : HasRead l.input l.lane l.row l.reader l.text.items }

abbrev pub decreases-rows : goal.decreases-rows
decreases-rows l = bytes_left l.reader
