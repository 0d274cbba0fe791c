use Rattle.std.proofs.Common.{List, ℕ, subst}
use Rattle.printed_text.specs.Writing.{Wrote}
use Rattle.printed_text.proofs.Printing.{printable_is, within_rounds}
use Rattle.history_text.specs.Histories.{IsDoneWith}
use Rattle.history_text.proofs.PageLines.{pages_are}
use Rattle.history_text.proofs.pages.tell_pages.Goals as goal

pub bounds-rounds-first : goal.bounds-rounds-first
bounds-rounds-first g c = within_rounds c.args.rounds.now 0 c.args.entry.now.act c.requires.publication

pub tell_cut-requires-clause-printable : goal.tell_cut-requires-clause-printable
tell_cut-requires-clause-printable g c =
    printable_is c.args.rounds.now 0 c.index-rounds-first.result c.args.entry.now.act c.in-Publish.round c.in-Publish.outcome c.requires.publication c.index-rounds-first.is c.in-Publish.is

pub returns-clause-wrote : goal.returns-clause-wrote
returns-clause-wrote g c =
    let lt = within_rounds c.args.rounds.now 0 c.args.entry.now.act c.requires.publication in
    let is = pages_are c.args.rounds.now 0 c.index-rounds-first.result c.args.entry.now.act c.args.entry.now.reply c.in-Publish.round c.requires.published.0 c.in-Publish.outcome lt c.index-rounds-first.is c.requires.published.1 c.in-Publish.is in
    subst (λ (t : List ℕ). Wrote (IsDoneWith t) (g.K.Sink.held c.args.sink.now) (g.K.Sink.held c.tell_cut.new.sink) c.tell_cut.result) is c.tell_cut.ensures.wrote
