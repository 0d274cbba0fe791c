use Rattle.printed_text.specs.Writing.{whole, broken}
use Rattle.printed_text.proofs.ending.end_with.Goals as goal

pub returns-in-Ok-clause-written : goal.returns-in-Ok-clause-written
returns-in-Ok-clause-written g c = whole c.in-Ok.ensures.ok

pub returns-in-Err-clause-written : goal.returns-in-Err-clause-written
returns-in-Err-clause-written g c = broken c.in-Err.ensures.err
