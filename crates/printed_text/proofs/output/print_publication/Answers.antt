use Rattle.std.proofs.Common.{◌<◌, length, arith}
use Rattle.printed_text.proofs.Passing.{prints_as, prints_failed, prints_same}
use Rattle.printed_text.proofs.Printing.{printable_is, statement_is, within_rounds}
use Rattle.printed_text.proofs.output.print_publication.Goals as goal

pub bounds-rounds-next : goal.bounds-rounds-next
bounds-rounds-next g c = within_rounds c.args.rounds.now c.args.next c.args.entry.now.act (c.requires.publication c.in-Published.total c.in-Published.is)

pub print_statement-requires-clause-printable : goal.print_statement-requires-clause-printable
print_statement-requires-clause-printable g c =
    let p = c.requires.publication c.in-Published.total c.in-Published.is in
    printable_is c.args.rounds.now c.args.next c.index-rounds-next.result c.args.entry.now.act c.in-Publish.round c.in-Publish.outcome p c.index-rounds-next.is c.in-Publish.is

pub returns-in_err-print_statement-clause-printed : goal.returns-in_err-print_statement-clause-printed
returns-in_err-print_statement-clause-printed g c =
    let p = c.requires.publication c.in-Published.total c.in-Published.is in
    let lt = within_rounds c.args.rounds.now c.args.next c.args.entry.now.act p in
    let is = statement_is c.args.rounds.now c.args.next c.index-rounds-next.result c.args.entry.now.act c.args.entry.now.reply c.in-Publish.round c.in-Published.total c.in-Publish.outcome lt c.index-rounds-next.is c.in-Published.is c.in-Publish.is in
    prints_as is (prints_failed c.from_residual.ensures.0 c.in_err-print_statement.ensures)

pub overflow_add-result : goal.overflow_add-result
overflow_add-result g c =
    let lt : c.args.next < length c.args.rounds.now = within_rounds c.args.rounds.now c.args.next c.args.entry.now.act (c.requires.publication c.in-Published.total c.in-Published.is) in
    omega arith

pub returns-clause-printed : goal.returns-clause-printed
returns-clause-printed g c =
    let p = c.requires.publication c.in-Published.total c.in-Published.is in
    let lt = within_rounds c.args.rounds.now c.args.next c.args.entry.now.act p in
    let is = statement_is c.args.rounds.now c.args.next c.index-rounds-next.result c.args.entry.now.act c.args.entry.now.reply c.in-Publish.round c.in-Published.total c.in-Publish.outcome lt c.index-rounds-next.is c.in-Published.is c.in-Publish.is in
    prints_as is (prints_same c.in_ok-print_statement.ensures)
