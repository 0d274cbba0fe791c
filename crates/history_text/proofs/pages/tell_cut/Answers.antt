use Rattle.history_text.specs.Pages.{pages_text}
use Rattle.history_text.proofs.Due.{done_memory, done_whole}
use Rattle.history_text.proofs.pages.tell_cut.Goals as goal

pub returns-in_default-clause-wrote : goal.returns-in_default-clause-wrote
returns-in_default-clause-wrote g c =
    done_memory (g.K.Sink.held c.args.sink.now) (g.K.Sink.held c.tell_no_memory.new.sink) (pages_text c.args.cut.now c.args.outcome.now) c.tell_no_memory.result c.tell_no_memory.ensures.written

pub returns-clause-wrote : goal.returns-clause-wrote
returns-clause-wrote g c =
    done_whole (g.K.Sink.held c.args.sink.now) (g.K.Sink.held c.tell_listed-status.new.sink) (pages_text c.args.cut.now c.args.outcome.now) c.tell_listed-status.result c.tell_listed-status.ensures.written
