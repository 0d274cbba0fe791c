use Rattle.std.proofs.Common.{subst, sym}
use Rattle.bureau_reports.proofs.Written.{wrote_for}
use Rattle.bureau_commands.specs.Headline.{Output, output_of}
use Rattle.bureau_commands.specs.Due.{IsBatchesDue, IsNotBegunDue, WroteTaking}
use Rattle.bureau_commands.proofs.Served.{wrote_all}
use Rattle.live_runs.specs.printed_text.proofs.Statuses.{told_behind}
use Rattle.bureau_commands.proofs.run.open_and_run.Goals as goal

-- ---- no batch was served

pub returns-in-Err-clause-wrote : goal.returns-in-Err-clause-wrote
returns-in-Err-clause-wrote g c =
    let output : Output g.row.D.Denot = output_of (g.K.Sink.held c.args.sink.now) (g.K.Sink.held c.begin.new.sink) (g.W.Witness.shown c.args.witness.now) (g.W.Witness.shown c.begin.new.witness) in
    wrote_for (IsNotBegunDue g.D.Disk.seen output c.args.disk c.in-Err.field-0.disk) (IsBatchesDue g.D.Disk.seen output c.args.disk c.in-Err.field-0.disk c.args.batches.now) (g.K.Sink.held c.args.sink.now) (g.K.Sink.held c.begin.new.sink) c.in-Err.field-0.status (λ s t h. h.1 c.args.batches.now c.requires.asked) c.in-Err.ensures.wrote

pub returns-in-Err-clause-write_fault : goal.returns-in-Err-clause-write_fault
returns-in-Err-clause-write_fault g c = c.in-Err.ensures.write_fault

-- ---- the batches

pub run_batches-status-requires-clause-empty : goal.run_batches-status-requires-clause-empty
run_batches-status-requires-clause-empty g c = λ κs outlives. c.in-Ok.ensures.empty

pub run_batches-status-requires-clause-spare : goal.run_batches-status-requires-clause-spare
run_batches-status-requires-clause-spare g c = λ κs outlives. c.in-Ok.ensures.room

pub returns-in-Ok-clause-wrote : goal.returns-in-Ok-clause-wrote
returns-in-Ok-clause-wrote g c =
    let first = c.in-Ok.field-0.desk in
    let last = c.run_batches-status.result.1 in
    let begun = c.in-Ok.ensures.begun in
    subst (λ (d : g.row.D.Denot). WroteTaking (λ output. IsBatchesDue g.D.Disk.seen output c.args.disk d c.args.batches.now) (g.K.Sink.held c.args.sink.now) (g.K.Sink.held c.run_batches-status.new.sink) (g.W.Witness.shown c.args.witness.now) (g.W.Witness.shown c.run_batches-status.new.witness) c.run_batches-status.result.0) (sym c.close.ensures.disk)
    (wrote_all g.D.Disk.seen c.args.disk first last begun.opening c.close.ensures.keeps c.close.ensures.counted c.run_batches-status.ensures.ran.opening (g.K.Sink.held c.args.sink.now) (g.K.Sink.held c.begin.new.sink) (g.K.Sink.held c.run_batches-status.new.sink)
    (g.W.Witness.shown c.args.witness.now) (g.W.Witness.shown c.begin.new.witness) (g.W.Witness.shown c.run_batches-status.new.witness) c.args.batches.now c.run_batches-status.result.0 c.requires.asked begun c.run_batches-status.ensures.ran)

pub returns-in-Ok-clause-write_fault : goal.returns-in-Ok-clause-write_fault
returns-in-Ok-clause-write_fault g c = told_behind _ _ _ _ c.in-Ok.ensures.kept c.run_batches-status.ensures.write_fault
