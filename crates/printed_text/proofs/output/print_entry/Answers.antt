use Rattle.served_lines.specs.claim_history.specs.Pools.{member_of}
use Rattle.entry_text.specs.Entries.{entry_line}
use Rattle.printed_text.proofs.Passing.{prints_line, prints_no_line}
use Rattle.printed_text.proofs.output.print_entry.Goals as goal

pub returns-in_err-make_room : goal.returns-in_err-make_room
returns-in_err-make_room g c =
    let made = c.in_err-make_room.ensures in
    prints_no_line (entry_line (member_of c.args.pool.now c.args.entry.now)) c.from_residual.ensures.0 made.part made.cause made.room

pub returns : goal.returns
returns g c =
    let made = c.in_ok-make_room.ensures in
    prints_line c.make_room.new.buffer (entry_line (member_of c.args.pool.now c.args.entry.now)) made.ok made.cause.kept made.room c.write_member.ensures.text c.write_member.ensures.room
