use Rattle.setoff_model.proofs.Lists.{on_err}
use Rattle.printed_text.specs.statement_text.specs.Statements.{statement_bytes}
use Rattle.printed_text.proofs.Passing.{on_err_if, part_left, part_of_text, counted_behind}
use Rattle.weighed_round.proofs.forecast.print_whole.Goals as goal

pub returns-clause-part : goal.returns-clause-part
returns-clause-part g c =
    let text = statement_bytes c.args.cut.now c.args.outcome.now in
    on_err_if c.flush.result _ _ (λ h. part_of_text _ _ c.args.buffer.now.items text c.requires.empty
    (part_left _ _ _ c.args.buffer.now.items c.print_statement.new.buffer.items text c.in_ok-print_statement.ensures.ok h)) c.flush.ensures.part

pub returns-clause-cause : goal.returns-clause-cause
returns-clause-cause g c = counted_behind (g.K.Sink.faults c.args.sink.now) (g.K.Sink.faults c.print_statement.new.sink) (g.K.Sink.faults c.flush.new.sink) c.flush.result c.in_ok-print_statement.ensures.cause.kept c.flush.ensures.cause

pub returns-in_err-print_statement-clause-part : goal.returns-in_err-print_statement-clause-part
returns-in_err-print_statement-clause-part g c =
    on_err c.from_residual.result _ (part_of_text _ _ c.args.buffer.now.items (statement_bytes c.args.cut.now c.args.outcome.now) c.requires.empty c.in_err-print_statement.ensures.part)
