use Rattle.std.proofs.Common.{subst}
use Rattle.bureau_reports.specs.Journals.{IsMade}
use Rattle.bureau_reports.proofs.journal.status_of.Goals as goal

pub unreachable-requires : goal.unreachable-requires
unreachable-requires c = subst IsMade c.in-Account.is c.requires

pub unreachable-requires-in-Statement : goal.unreachable-requires-in-Statement
unreachable-requires-in-Statement c = subst IsMade c.in-Statement.is c.requires

pub unreachable-requires-in-Since : goal.unreachable-requires-in-Since
unreachable-requires-in-Since c = subst IsMade c.in-Since.is c.requires

pub unreachable-requires-in-Parts : goal.unreachable-requires-in-Parts
unreachable-requires-in-Parts c = subst IsMade c.in-Parts.is c.requires

pub unreachable-requires-in-Forecast : goal.unreachable-requires-in-Forecast
unreachable-requires-in-Forecast c = subst IsMade c.in-Forecast.is c.requires

pub unreachable-requires-in-History : goal.unreachable-requires-in-History
unreachable-requires-in-History c = subst IsMade c.in-History.is c.requires
