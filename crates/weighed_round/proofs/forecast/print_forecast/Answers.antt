use Rattle.weighed_round.proofs.Forecasts.{wrote_next, wrote_no_memory}
use Rattle.weighed_round.proofs.forecast.print_forecast.Goals as goal

pub returns-in-Ok-clause-wrote : goal.returns-in-Ok-clause-wrote
returns-in-Ok-clause-wrote g c =
    wrote_next c.args.kind c.args.horizon c.args.book.now.history _ _ c.in-Ok.cut c.in-Ok.outcome _ c.in-Ok.ensures.cut c.in-Ok.ensures.printable c.in-Ok.ensures.oldest_first c.tell_whole.ensures.written

pub returns-in-Err-clause-wrote : goal.returns-in-Err-clause-wrote
returns-in-Err-clause-wrote g c = wrote_no_memory c.args.kind c.args.horizon c.args.book.now.history _ _ _ c.tell_no_memory.ensures.written
