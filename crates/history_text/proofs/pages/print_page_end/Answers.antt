use Rattle.std.proofs.Common.{◌++◌}
use Rattle.printed_text.specs.statement_text.specs.declared.line.Line.TheVariants as line
use Rattle.printed_text.specs.Printing.{line_bytes}
use Rattle.printed_text.proofs.Passing.{prints_line, prints_no_line}
use Rattle.history_text.specs.Pages.{net_text}
use Rattle.history_text.proofs.pages.print_page_end.Goals as goal

pub returns-in_err-make_room : goal.returns-in_err-make_room
returns-in_err-make_room g c =
    let made = c.in_err-make_room.ensures in
    prints_no_line (net_text c.args.net.received c.args.net.paid ++ line_bytes line.End) c.from_residual.ensures.0 made.part made.cause made.room

pub returns : goal.returns
returns g c =
    let made = c.in_ok-make_room.ensures in
    prints_line c.make_room.new.buffer (net_text c.args.net.received c.args.net.paid ++ line_bytes line.End) made.ok made.cause.kept made.room c.write_page_end.ensures.text c.write_page_end.ensures.room
