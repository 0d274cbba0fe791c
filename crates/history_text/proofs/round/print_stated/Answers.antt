use Rattle.std.specs.Prelude.{slice_get}
use Rattle.printed_text.specs.Printing.{statement_of}
use Rattle.printed_text.proofs.Passing.{on_err_if, part_left, part_of_text, counted_behind}
use Rattle.history_text.proofs.round.print_stated.Goals as goal

pub returns-clause-part : goal.returns-clause-part
returns-clause-part g c =
    let text = statement_of (slice_get c.args.rounds.now 0) c.args.entry.now.act c.args.entry.now.reply in
    on_err_if c.flush.result _ _ (λ h. part_of_text _ _ c.args.buffer.now.items text c.requires.empty
    (part_left _ _ _ c.args.buffer.now.items c.print_publication.new.buffer.items text c.in_ok-print_publication.ensures.printed.ok h)) c.flush.ensures.part

pub returns-clause-cause : goal.returns-clause-cause
returns-clause-cause g c = counted_behind (g.K.Sink.faults c.args.sink.now) (g.K.Sink.faults c.print_publication.new.sink) (g.K.Sink.faults c.flush.new.sink) c.flush.result c.in_ok-print_publication.ensures.printed.cause.kept c.flush.ensures.cause
