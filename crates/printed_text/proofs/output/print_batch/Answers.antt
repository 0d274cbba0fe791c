use Rattle.std.proofs.Common.{◌++◌, drop, take, arith}
use Rattle.printed_text.specs.Printing.{added_text, answers_in, ends_text}
use Rattle.setoff_model.proofs.Lists.{on_err}
use Rattle.printed_text.proofs.Passing.{on_err_if, part_of_text, part_left, part_more, part_then, pass_flushed, pass_then, counted_later, counted_behind}
use Rattle.printed_text.proofs.output.print_batch.Goals as goal

pub returns-in_err-print_members-clause-part : goal.returns-in_err-print_members-clause-part
returns-in_err-print_members-clause-part g c =
    on_err _ _ (part_more _ _ (added_text (take c.args.from c.args.books.now.members) (drop c.args.from c.args.books.now.members)) (ends_text (answers_in c.args.answers))
    (part_of_text _ _ c.args.buffer.now.items (added_text (take c.args.from c.args.books.now.members) (drop c.args.from c.args.books.now.members)) c.requires.empty c.in_err-print_members.ensures.part))

pub returns-in_err-print_ends-clause-part : goal.returns-in_err-print_ends-clause-part
returns-in_err-print_ends-clause-part g c =
    on_err _ _ (part_of_text _ _ c.args.buffer.now.items (added_text (take c.args.from c.args.books.now.members) (drop c.args.from c.args.books.now.members) ++ ends_text (answers_in c.args.answers)) c.requires.empty
    (part_then _ _ _ c.args.buffer.now.items c.print_members.new.buffer.items (added_text (take c.args.from c.args.books.now.members) (drop c.args.from c.args.books.now.members)) (ends_text (answers_in c.args.answers)) c.in_ok-print_members.ensures.ok c.in_err-print_ends.ensures.part))

pub returns-clause-part : goal.returns-clause-part
returns-clause-part g c =
    on_err_if c.flush.result _ _ (λ h. part_of_text _ _ c.args.buffer.now.items (added_text (take c.args.from c.args.books.now.members) (drop c.args.from c.args.books.now.members) ++ ends_text (answers_in c.args.answers)) c.requires.empty
    (part_left _ _ _ c.args.buffer.now.items c.print_ends.new.buffer.items (added_text (take c.args.from c.args.books.now.members) (drop c.args.from c.args.books.now.members) ++ ends_text (answers_in c.args.answers))
    (pass_then _ _ _ c.args.buffer.now.items c.print_members.new.buffer.items c.print_ends.new.buffer.items (added_text (take c.args.from c.args.books.now.members) (drop c.args.from c.args.books.now.members)) (ends_text (answers_in c.args.answers)) c.in_ok-print_members.ensures.ok c.in_ok-print_ends.ensures.ok) h)) c.flush.ensures.part

pub returns-clause-ok : goal.returns-clause-ok
returns-clause-ok g c =
    let added = added_text (take c.args.from c.args.books.now.members) (drop c.args.from c.args.books.now.members) in
    let x = g.K.Sink.held c.args.sink.now in
    let z = g.K.Sink.held c.print_ends.new.sink in
    let a = c.args.buffer.now.items in
    let d = c.print_ends.new.buffer.items in
    let passes = pass_then x (g.K.Sink.held c.print_members.new.sink) z a c.print_members.new.buffer.items d added (ends_text (answers_in c.args.answers)) c.in_ok-print_members.ensures.ok c.in_ok-print_ends.ensures.ok in
    pass_flushed c.flush.result x z (g.K.Sink.held c.flush.new.sink) a d c.flush.new.buffer.items (added ++ ends_text (answers_in c.args.answers)) c.requires.empty passes c.flush.ensures.ok c.flush.ensures.emptied

pub returns-in_err-print_ends-clause-cause : goal.returns-in_err-print_ends-clause-cause
returns-in_err-print_ends-clause-cause g c = counted_later (g.K.Sink.faults c.args.sink.now) (g.K.Sink.faults c.print_members.new.sink) (g.K.Sink.faults c.print_ends.new.sink) _ c.from_residual-in_err-print_ends.result c.from_residual-in_err-print_ends.ensures.0 c.in_ok-print_members.ensures.cause.kept c.in_err-print_ends.ensures.cause

pub returns-clause-cause : goal.returns-clause-cause
returns-clause-cause g c = counted_behind (g.K.Sink.faults c.args.sink.now) (g.K.Sink.faults c.print_ends.new.sink) (g.K.Sink.faults c.flush.new.sink) c.flush.result (omega (arith, c.in_ok-print_ends.ensures.cause.kept, c.in_ok-print_members.ensures.cause.kept)) c.flush.ensures.cause
