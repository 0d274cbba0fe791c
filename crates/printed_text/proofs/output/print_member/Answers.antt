use Rattle.std.specs.Prelude.{slice_get}
use Rattle.printed_text.specs.Printing.{statement_of}
use Rattle.printed_text.proofs.Passing.{prints_no_more, prints_then}
use Rattle.printed_text.proofs.output.print_member.Goals as goal

pub returns-in_err-print_entry-clause-printed : goal.returns-in_err-print_entry-clause-printed
returns-in_err-print_entry-clause-printed g c =
    prints_no_more (statement_of (slice_get c.args.rounds.now c.args.next) c.args.entry.now.act c.args.entry.now.reply) c.from_residual.ensures.0 c.in_err-print_entry.ensures

pub returns-clause-printed : goal.returns-clause-printed
returns-clause-printed g c = prints_then c.in_ok-print_entry.ensures c.print_publication.ensures.printed
