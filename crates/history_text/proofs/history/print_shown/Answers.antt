use Rattle.std.proofs.Common.{[]}
use Rattle.claim_history.specs.declared.call.PoolEntry.{PoolEntry}
use Rattle.claim_history.specs.Pools.{member_of}
use Rattle.printed_text.proofs.Passing.{prints_as}
use Rattle.history_text.proofs.Printed.{line_shown, open_shown, shown_printable}
use Rattle.history_text.proofs.history.print_shown.Goals as goal

pub print_one-requires-clause-publication : goal.print_one-requires-clause-publication
print_one-requires-clause-publication g c = λ total is.
    shown_printable c.args.replayed.now.members (member_of c.args.pool.now c.args.entry.now) c.open_cut.result.now (c.requires.open total is) c.open_cut.ensures (c.requires.printable total is)

pub returns-in-Published : goal.returns-in-Published
returns-in-Published g c =
    let m : PoolEntry = member_of c.args.pool.now c.args.entry.now in
    prints_as (open_shown c.args.replayed.now.members m c.open_cut.result.now (c.requires.open c.in-Published.total c.in-Published.is) c.open_cut.ensures) c.print_one.ensures

pub returns-in_default : goal.returns-in_default
returns-in_default g c =
    let m : PoolEntry = member_of c.args.pool.now c.args.entry.now in
    prints_as (line_shown c.args.replayed.now.members m [] (λ total published. absurd (c.in_default.not-Published total published))) c.print_one-in_default.ensures
