use Rattle.std.proofs.Common.{List, ℕ, ◌∙◌, append_assoc}
use Rattle.std.specs.Prelude.{slice_index_or}
use Rattle.statement_text.specs.Statements.{claim_line}
use Rattle.printed_text.specs.Printing.{line_bytes}
use Rattle.printed_text.proofs.Passing.{prints_line, prints_no_line}
use Rattle.printed_text.proofs.statement.print_claim.Goals as goal

pub returns-in_err-make_room : goal.returns-in_err-make_room
returns-in_err-make_room g c none =
    let made = c.in_err-make_room.ensures in
    let text : List ℕ = line_bytes (claim_line c.args.cut.now.parties (slice_index_or c.args.cut.now.claims c.args.place none) c.args.discharge) in
    prints_no_line text c.from_residual.ensures.0 made.part made.cause made.room

pub returns : goal.returns
returns g c none =
    let made = c.in_ok-make_room.ensures in
    let b = c.make_room.new.buffer in
    let text : List ℕ = line_bytes (claim_line c.args.cut.now.parties (slice_index_or c.args.cut.now.claims c.args.place none) c.args.discharge) in
    prints_line b text made.ok made.cause.kept made.room (c.write_claim.ensures.text none ∙ append_assoc b.items _ _) c.write_claim.ensures.room
