use Rattle.setoff_model.proofs.Lists.{on_err}
use Rattle.history_text.specs.Histories.{text_from, told_members}
use Rattle.printed_text.proofs.Passing.{part_of_text, counted_later}
use Rattle.history_text.proofs.Printed.{told_flushed, told_unflushed}
use Rattle.history_text.proofs.history.print_whole.Goals as goal

pub returns-in_err-done-clause-part : goal.returns-in_err-done-clause-part
returns-in_err-done-clause-part g c = on_err _ _ (part_of_text _ _ c.args.buffer.now.items (text_from (told_members c.args.pool.now c.args.books.now.members) c.args.from) c.requires.empty c.in_err-done.ensures.part)

pub returns-in_err-flush-clause-part : goal.returns-in_err-flush-clause-part
returns-in_err-flush-clause-part g c =
    on_err _ _ (told_unflushed c.in_ok-done.done _ _ _ c.args.buffer.now.items c.print_replayed.new.buffer.items (told_members c.args.pool.now c.args.books.now.members) c.args.from c.requires.empty c.in_ok-done.ensures.ok c.in_err-flush.ensures.part)

pub returns-clause-ok : goal.returns-clause-ok
returns-clause-ok g c =
    told_flushed c.in_ok-done.done _ _ _ c.args.buffer.now.items c.print_replayed.new.buffer.items c.flush.new.buffer.items (told_members c.args.pool.now c.args.books.now.members) c.args.from c.requires.empty c.in_ok-done.ensures.ok c.in_ok-flush.ensures.ok c.in_ok-flush.ensures.emptied

pub returns-in_err-flush-clause-cause : goal.returns-in_err-flush-clause-cause
returns-in_err-flush-clause-cause g c = counted_later (g.K.Sink.faults c.args.sink.now) (g.K.Sink.faults c.print_replayed.new.sink) (g.K.Sink.faults c.flush.new.sink) _ c.from_residual-in_err-flush.result c.from_residual-in_err-flush.ensures.0 c.in_ok-done.ensures.cause.kept c.in_err-flush.ensures.cause
