use Rattle.statement_text.specs.declared.line.Line.TheVariants as line
use Rattle.printed_text.specs.Printing.{line_bytes}
use Rattle.printed_text.proofs.Passing.{prints_line, prints_no_line}
use Rattle.printed_text.proofs.statement.print_end.Goals as goal

pub returns-in_err-make_room : goal.returns-in_err-make_room
returns-in_err-make_room g c =
    let made = c.in_err-make_room.ensures in
    prints_no_line (line_bytes line.End) c.from_residual.ensures.0 made.part made.cause made.room

pub returns : goal.returns
returns g c =
    let made = c.in_ok-make_room.ensures in
    prints_line c.make_room.new.buffer (line_bytes line.End) made.ok made.cause.kept made.room c.write_end.ensures.text c.write_end.ensures.room
