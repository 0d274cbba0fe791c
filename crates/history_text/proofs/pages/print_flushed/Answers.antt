use Rattle.setoff_model.proofs.Lists.{on_err}
use Rattle.printed_text.proofs.Passing.{counted_behind, on_err_if, part_left, part_of_text, pass_flushed}
use Rattle.history_text.specs.Pages.{pages_text}
use Rattle.history_text.proofs.pages.print_flushed.Goals as goal

pub returns-clause-ok : goal.returns-clause-ok
returns-clause-ok g c =
    pass_flushed c.flush.result (g.K.Sink.held c.args.sink.now) (g.K.Sink.held c.print_pages.new.sink) (g.K.Sink.held c.flush.new.sink) c.args.buffer.now.items c.print_pages.new.buffer.items c.flush.new.buffer.items (pages_text c.args.cut.now c.args.outcome.now)
    c.requires.empty c.in_ok-print_pages.ensures.ok c.flush.ensures.ok c.flush.ensures.emptied

pub returns-clause-part : goal.returns-clause-part
returns-clause-part g c =
    let text = pages_text c.args.cut.now c.args.outcome.now in
    on_err_if c.flush.result _ _ (λ h. part_of_text _ _ c.args.buffer.now.items text c.requires.empty
    (part_left _ _ _ c.args.buffer.now.items c.print_pages.new.buffer.items text c.in_ok-print_pages.ensures.ok h)) c.flush.ensures.part

pub returns-in_err-print_pages-clause-part : goal.returns-in_err-print_pages-clause-part
returns-in_err-print_pages-clause-part g c =
    on_err _ _ (part_of_text _ _ c.args.buffer.now.items (pages_text c.args.cut.now c.args.outcome.now) c.requires.empty c.in_err-print_pages.ensures.part)

pub returns-clause-cause : goal.returns-clause-cause
returns-clause-cause g c = counted_behind (g.K.Sink.faults c.args.sink.now) (g.K.Sink.faults c.print_pages.new.sink) (g.K.Sink.faults c.flush.new.sink) c.flush.result c.in_ok-print_pages.ensures.cause.kept c.flush.ensures.cause
