use Rattle.std.specs.Prelude.{slice_get}
use Rattle.std.proofs.Common.{subst, sym}
use Rattle.printed_text.specs.Printing.{statement_of}
use Rattle.printed_text.specs.Writing.{Wrote}
use Rattle.history_text.specs.declared.round_form.RoundForm.{RoundForm}
use Rattle.history_text.specs.Histories.{IsDoneWith, text_in_form}
use Rattle.history_text.proofs.Due.{done_whole}
use Rattle.history_text.proofs.round.tell_round.Goals as goal

pub returns-in-Statement-clause-wrote : goal.returns-in-Statement-clause-wrote
returns-in-Statement-clause-wrote g c =
    let y = g.K.Sink.held c.args.sink.now in
    let z = g.K.Sink.held c.tell_stated.new.sink in
    subst (λ (form : RoundForm). Wrote (IsDoneWith (text_in_form form (slice_get c.args.rounds.now 0) c.args.entry.now.act c.args.entry.now.reply)) y z c.tell_stated.result) (sym c.in-Statement.is)
    (done_whole y z (statement_of (slice_get c.args.rounds.now 0) c.args.entry.now.act c.args.entry.now.reply) c.tell_stated.result c.tell_stated.ensures.written)

pub returns-in-Pages-clause-wrote : goal.returns-in-Pages-clause-wrote
returns-in-Pages-clause-wrote g c =
    let y = g.K.Sink.held c.args.sink.now in
    let z = g.K.Sink.held c.tell_pages.new.sink in
    subst (λ (form : RoundForm). Wrote (IsDoneWith (text_in_form form (slice_get c.args.rounds.now 0) c.args.entry.now.act c.args.entry.now.reply)) y z c.tell_pages.result) (sym c.in-Pages.is) c.tell_pages.ensures.wrote
