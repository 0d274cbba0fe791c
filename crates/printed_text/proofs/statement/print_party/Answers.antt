use Rattle.std.proofs.lemmas.Int.{to_z-of_z}
use Rattle.statement_text.specs.declared.line.Line.TheVariants as line
use Rattle.printed_text.specs.Printing.{line_bytes}
use Rattle.printed_text.proofs.Passing.{prints_line, prints_no_line}
use Rattle.printed_text.proofs.statement.print_party.Goals as goal

pub returns-in_err-make_room : goal.returns-in_err-make_room
returns-in_err-make_room g c =
    let made = c.in_err-make_room.ensures in
    prints_no_line (line_bytes (line.Party c.args.party.now c.args.price)) c.from_residual.ensures.0 made.part made.cause made.room

pub returns : goal.returns
returns g c =
    let made = c.in_ok-make_room.ensures in
    let fits = c.ranges.price in
    let b = c.make_room.new.buffer in
    let written = simp to_z-of_z at c.write_party.ensures.text in
    prints_line b (line_bytes (line.Party c.args.party.now c.args.price)) made.ok made.cause.kept made.room written c.write_party.ensures.room
