use Rattle.std.proofs.Common.{◌∙◌, ℕ, ◌<◌, List, ap, subst, sym}
use Rattle.setoff_model.specs.declared.limits.TheConstants.{MOST_ROUNDS}
use Rattle.weighed_round.specs.claim_history.specs.declared.entry.Entry.{Entry}
use Rattle.weighed_round.specs.claim_history.specs.Pools.{entries_in}
use Rattle.weighed_round.specs.claim_history.specs.States.{state_of}
use Rattle.weighed_round.specs.printed_text.specs.Writing.{Wrote}
use Rattle.history_text.specs.Since.{IsSinceDue}
use Rattle.command_words.specs.declared.journal_report.JournalReport.TheVariants as journals
use Rattle.bureau_reports.specs.Journals.{firm_of}
use Rattle.bureau_reports.proofs.Held.{is_made, wrote_forecast, wrote_history, wrote_parts, wrote_round, wrote_since}
use Rattle.bureau_reports.proofs.journal.print_books.Goals as goal

pub print_made-requires : goal.print_made-requires
print_made-requires g c = is_made c.args.report.now journals.Audit c.in-Audit.is tt

pub returns-in-Audit-clause-wrote : goal.returns-in-Audit-clause-wrote
returns-in-Audit-clause-wrote g c = c.print_made.ensures.wrote

pub returns-in-Audit-clause-write_fault : goal.returns-in-Audit-clause-write_fault
returns-in-Audit-clause-write_fault g c = c.print_made.ensures.write_fault

pub print_made-requires-in-Positions : goal.print_made-requires-in-Positions
print_made-requires-in-Positions g c = is_made c.args.report.now (journals.Positions c.in-Positions.pool) c.in-Positions.is tt

pub returns-in-Positions-clause-wrote : goal.returns-in-Positions-clause-wrote
returns-in-Positions-clause-wrote g c = c.print_made-in-Positions.ensures.wrote

pub returns-in-Positions-clause-write_fault : goal.returns-in-Positions-clause-write_fault
returns-in-Positions-clause-write_fault g c = c.print_made-in-Positions.ensures.write_fault

pub print_made-requires-in-Notices : goal.print_made-requires-in-Notices
print_made-requires-in-Notices g c = is_made c.args.report.now (journals.Notices c.in-Notices.today c.in-Notices.pool) c.in-Notices.is tt

pub returns-in-Notices-clause-wrote : goal.returns-in-Notices-clause-wrote
returns-in-Notices-clause-wrote g c = c.print_made-in-Notices.ensures.wrote

pub returns-in-Notices-clause-write_fault : goal.returns-in-Notices-clause-write_fault
returns-in-Notices-clause-write_fault g c = c.print_made-in-Notices.ensures.write_fault

pub print_made-requires-in-Weigh : goal.print_made-requires-in-Weigh
print_made-requires-in-Weigh g c = is_made c.args.report.now (journals.Weigh c.in-Weigh.kind c.in-Weigh.today) c.in-Weigh.is tt

pub returns-in-Weigh-clause-wrote : goal.returns-in-Weigh-clause-wrote
returns-in-Weigh-clause-wrote g c = c.print_made-in-Weigh.ensures.wrote

pub returns-in-Weigh-clause-write_fault : goal.returns-in-Weigh-clause-write_fault
returns-in-Weigh-clause-write_fault g c = c.print_made-in-Weigh.ensures.write_fault

pub print_history-requires-clause-empty : goal.print_history-requires-clause-empty
print_history-requires-clause-empty g c = c.requires.empty

pub print_history-requires-clause-spare : goal.print_history-requires-clause-spare
print_history-requires-clause-spare g c = c.requires.spare

pub returns-in-History-clause-wrote : goal.returns-in-History-clause-wrote
returns-in-History-clause-wrote g c = wrote_history c.args.report.now c.in-History.pool c.args.books.now.members _ _ _ c.in-History.is c.print_history.ensures.wrote

pub returns-in-History-clause-write_fault : goal.returns-in-History-clause-write_fault
returns-in-History-clause-write_fault g c = c.print_history.ensures.write_fault

pub print_round-requires-clause-empty : goal.print_round-requires-clause-empty
print_round-requires-clause-empty g c = c.requires.empty

pub print_round-requires-clause-len : goal.print_round-requires-clause-len
print_round-requires-clause-len g c = c.requires.len

pub print_round-requires-clause-spare : goal.print_round-requires-clause-spare
print_round-requires-clause-spare g c = c.requires.spare

pub returns-in-Statement-clause-wrote : goal.returns-in-Statement-clause-wrote
returns-in-Statement-clause-wrote g c = wrote_round c.args.report.now c.in-Statement.round c.in-Statement.pool c.pool.result c.args.books.now.members _ _ _ c.in-Statement.is c.pool.ensures c.print_round.ensures.wrote

pub returns-in-Statement-clause-write_fault : goal.returns-in-Statement-clause-write_fault
returns-in-Statement-clause-write_fault g c = c.print_round.ensures.write_fault

pub print_made-requires-in-Pools : goal.print_made-requires-in-Pools
print_made-requires-in-Pools g c = is_made c.args.report.now journals.Pools c.in-Pools.is tt

pub returns-in-Pools-clause-wrote : goal.returns-in-Pools-clause-wrote
returns-in-Pools-clause-wrote g c = c.print_made-in-Pools.ensures.wrote

pub returns-in-Pools-clause-write_fault : goal.returns-in-Pools-clause-write_fault
returns-in-Pools-clause-write_fault g c = c.print_made-in-Pools.ensures.write_fault

pub print_made-requires-in-Seal : goal.print_made-requires-in-Seal
print_made-requires-in-Seal g c = is_made c.args.report.now (journals.Seal c.in-Seal.acts) c.in-Seal.is tt

pub returns-in-Seal-clause-wrote : goal.returns-in-Seal-clause-wrote
returns-in-Seal-clause-wrote g c = c.print_made-in-Seal.ensures.wrote

pub returns-in-Seal-clause-write_fault : goal.returns-in-Seal-clause-write_fault
returns-in-Seal-clause-write_fault g c = c.print_made-in-Seal.ensures.write_fault

pub print_since-requires-clause-empty : goal.print_since-requires-clause-empty
print_since-requires-clause-empty g c = c.requires.empty

pub print_since-requires-clause-len : goal.print_since-requires-clause-len
print_since-requires-clause-len g c = c.requires.len

pub print_since-requires-clause-spare : goal.print_since-requires-clause-spare
print_since-requires-clause-spare g c = c.requires.spare

pub returns-in-Since-clause-wrote : goal.returns-in-Since-clause-wrote
returns-in-Since-clause-wrote g c = wrote_since c.args.report.now c.in-Since.acts c.in-Since.pool c.args.books.now.members _ _ _ c.in-Since.is
    (subst (λ (n : ℕ). Wrote (IsSinceDue n c.in-Since.pool c.args.books.now.members) (g.K.Sink.held c.args.sink.now) (g.K.Sink.held c.print_since.new.sink) c.print_since.result) c.from.ensures c.print_since.ensures.wrote)

pub returns-in-Since-clause-write_fault : goal.returns-in-Since-clause-write_fault
returns-in-Since-clause-write_fault g c = c.print_since.ensures.write_fault

pub print_parts-requires-clause-empty : goal.print_parts-requires-clause-empty
print_parts-requires-clause-empty g c = c.requires.empty

pub print_parts-requires-clause-len : goal.print_parts-requires-clause-len
print_parts-requires-clause-len g c = c.requires.len

pub print_parts-requires-clause-spare : goal.print_parts-requires-clause-spare
print_parts-requires-clause-spare g c = c.requires.spare

pub returns-in-Parts-clause-wrote : goal.returns-in-Parts-clause-wrote
returns-in-Parts-clause-wrote g c = wrote_parts c.args.report.now c.in-Parts.round c.in-Parts.pool c.pool-in-Parts.result c.args.books.now.members _ _ _ c.in-Parts.is c.pool-in-Parts.ensures c.print_parts.ensures.wrote

pub returns-in-Parts-clause-write_fault : goal.returns-in-Parts-clause-write_fault
returns-in-Parts-clause-write_fault g c = c.print_parts.ensures.write_fault

pub print_forecast-requires-clause-few : goal.print_forecast-requires-clause-few
print_forecast-requires-clause-few g c =
    subst (λ (es : List Entry). (state_of es).openings < MOST_ROUNDS) (sym c.book.ensures) (c.requires.few c.pool-in-Forecast.result)

pub print_forecast-requires-clause-empty : goal.print_forecast-requires-clause-empty
print_forecast-requires-clause-empty g c = c.requires.empty

pub print_forecast-requires-clause-spare : goal.print_forecast-requires-clause-spare
print_forecast-requires-clause-spare g c = c.requires.spare

pub returns-in-Forecast-clause-wrote : goal.returns-in-Forecast-clause-wrote
returns-in-Forecast-clause-wrote g c = wrote_forecast c.args.report.now c.in-Forecast.kind c.in-Forecast.horizon c.in-Forecast.pool c.book.result.now.history c.args.books.now.members _ _ _ c.in-Forecast.is (c.book.ensures ∙ ap (λ (p : List ℕ). entries_in p c.args.books.now.members) c.pool-in-Forecast.ensures) c.print_forecast.ensures.wrote

pub returns-in-Forecast-clause-write_fault : goal.returns-in-Forecast-clause-write_fault
returns-in-Forecast-clause-write_fault g c = c.print_forecast.ensures.write_fault

pub unreachable-requires : goal.unreachable-requires
unreachable-requires g c = cc (sym (ap firm_of c.in-Account.is) ∙ c.requires.no_register)

pub unreachable-unreachable : goal.unreachable-unreachable
unreachable-unreachable g c = cc (sym (ap firm_of c.in-Account.is) ∙ c.requires.no_register)
