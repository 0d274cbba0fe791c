use Rattle.std.proofs.Common.{◌∙◌, sym}
use Rattle.journal_summaries.proofs.Named.{named_after}
use Rattle.journal_summaries.proofs.Registers.{cut_given, known_after}
use Rattle.journal_summaries.proofs.firm_account.put_own.Goals as goal

pub is_listed-requires : goal.is_listed-requires
is_listed-requires c =
    let last = c.requires.last in
    named_after last.before c.args.entry.now c.args.book.now.history last.next last.parts

pub put_listed-requires-clause-known : goal.put_listed-requires-clause-known
put_listed-requires-clause-known c =
    let last = c.requires.last in
    known_after last.before last.legal last.valid c.args.entry.now last.next c.args.firm.now c.args.cut.now c.args.book.now.history last.cut_is last.parts (sym c.is_listed.ensures ∙ c.if-is_listed.true)

pub put_listed-requires-clause-cut : goal.put_listed-requires-clause-cut
put_listed-requires-clause-cut c =
    let last = c.requires.last in
    cut_given last.before last.legal last.valid c.args.entry.now last.next c.args.cut.now last.cut_is
