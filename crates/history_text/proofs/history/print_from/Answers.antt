use Rattle.std.proofs.Common.{drop, refl, subst, take}
use Rattle.history_text.specs.declared.told.Told.{Told}
use Rattle.history_text.specs.Histories.{HasPrinted, told_members}
use Rattle.history_text.proofs.Due.{told_broken, told_short, told_whole}
use Rattle.history_text.proofs.Printed.{ends_within}
use Rattle.printed_text.proofs.Statuses.{none_told, sink_told, told_behind}
use Rattle.history_text.proofs.history.print_from.Goals as goal

pub returns-in-Ok-Whole-clause-wrote : goal.returns-in-Ok-Whole-clause-wrote
returns-in-Ok-Whole-clause-wrote g c =
    let members = told_members c.args.pool.now c.args.books.now.members in
    let y = g.K.Sink.held c.args.sink.now in
    let z = g.K.Sink.held c.print_whole.new.sink in
    told_whole (take c.args.from members) (drop c.args.from members) y z
    (subst (λ (t : Told). HasPrinted t y z members c.args.from) c.in-Ok-Whole.field-0-is c.in-Ok-Whole.ensures.ok)

pub returns-in-Ok-Short-clause-wrote : goal.returns-in-Ok-Short-clause-wrote
returns-in-Ok-Short-clause-wrote g c =
    let members = told_members c.args.pool.now c.args.books.now.members in
    let y = g.K.Sink.held c.args.sink.now in
    let z = g.K.Sink.held c.print_whole.new.sink in
    told_short members c.args.from y z (g.K.Sink.held c.tell_no_memory.new.sink) c.tell_no_memory.result
    (subst (λ (t : Told). HasPrinted t y z members c.args.from) c.in-Ok-Short.field-0-is c.in-Ok-Short.ensures.ok) c.tell_no_memory.ensures.written

pub returns-in-Ok-Whole-clause-write_fault : goal.returns-in-Ok-Whole-clause-write_fault
returns-in-Ok-Whole-clause-write_fault g c = none_told _ _ _ c.in-Ok-Whole.ensures.cause.kept (λ is. cc)

pub returns-in-Ok-Short-clause-write_fault : goal.returns-in-Ok-Short-clause-write_fault
returns-in-Ok-Short-clause-write_fault g c = told_behind _ _ _ _ c.in-Ok-Short.ensures.cause.kept c.tell_no_memory.ensures.failed

pub returns-in-Err-clause-wrote : goal.returns-in-Err-clause-wrote
returns-in-Err-clause-wrote g c =
    let members = told_members c.args.pool.now c.args.books.now.members in
    told_broken (take c.args.from members) (drop c.args.from members) (g.K.Sink.held c.args.sink.now) (g.K.Sink.held c.print_whole.new.sink) c.in-Err.ensures.part

pub returns-in-Err-clause-write_fault : goal.returns-in-Err-clause-write_fault
returns-in-Err-clause-write_fault g c = sink_told _ _ (c.in-Err.ensures.cause.cause refl)

pub returns-in-Ok-Whole-clause-memory : goal.returns-in-Ok-Whole-clause-memory
returns-in-Ok-Whole-clause-memory g c = λ is. absurd (cc is)

pub returns-in-Ok-Short-clause-memory : goal.returns-in-Ok-Short-clause-memory
returns-in-Ok-Short-clause-memory g c = λ is.
    let members = told_members c.args.pool.now c.args.books.now.members in
    let y = g.K.Sink.held c.args.sink.now in
    let z = g.K.Sink.held c.print_whole.new.sink in
    let short = subst (λ (t : Told). HasPrinted t y z members c.args.from) c.in-Ok-Short.field-0-is c.in-Ok-Short.ensures.ok in
    ends_within (take c.args.from members) (drop c.args.from members) short.0 short.1

pub returns-in-Err-clause-memory : goal.returns-in-Err-clause-memory
returns-in-Err-clause-memory g c = λ is. absurd (cc is)
