use Rattle.std.proofs.Common.{refl}
use Rattle.printed_text.specs.Writing.{broken, whole}
use Rattle.printed_text.proofs.Statuses.{none_told, sink_told}
use Rattle.weighed_round.proofs.forecast.tell_whole.Goals as goal

pub returns-in-Ok-clause-written : goal.returns-in-Ok-clause-written
returns-in-Ok-clause-written g c = whole c.in-Ok.ensures.ok

pub returns-in-Err-clause-written : goal.returns-in-Err-clause-written
returns-in-Err-clause-written g c = broken c.in-Err.ensures.part

pub returns-in-Err-clause-failed : goal.returns-in-Err-clause-failed
returns-in-Err-clause-failed g c = sink_told _ _ (c.in-Err.ensures.cause.cause refl)

pub returns-in-Ok-clause-failed : goal.returns-in-Ok-clause-failed
returns-in-Ok-clause-failed g c = none_told _ _ _ c.in-Ok.ensures.cause.kept (λ is. cc)
