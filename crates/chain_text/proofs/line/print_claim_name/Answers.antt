use Rattle.printed_text.proofs.Passing.{prints_line, prints_no_line}
use Rattle.chain_text.specs.Texts.{claim_name}
use Rattle.chain_text.proofs.line.print_claim_name.Goals as goal

pub returns-in_err-make_room : goal.returns-in_err-make_room
returns-in_err-make_room g c =
    let made = c.in_err-make_room.ensures in
    prints_no_line (claim_name c.args.cut.now.claims c.args.place) c.from_residual.ensures.0 made.part made.cause made.room

pub returns : goal.returns
returns g c =
    let made = c.in_ok-make_room.ensures in
    prints_line c.make_room.new.buffer (claim_name c.args.cut.now.claims c.args.place) made.ok made.cause.kept made.room c.write_claim_name.ensures.text c.write_claim_name.ensures.room
