use Rattle.std.proofs.Common.{[], refl, subst, sym, arith, ◌∙◌}
use Rattle.live_runs.specs.printed_text.specs.declared.exit_status.ExitStatus.TheVariants as statuses
use Rattle.live_runs.specs.printed_text.specs.Texts.{memory_text}
use Rattle.bureau_reports.proofs.Written.{no_other, wrote_for, wrote_line}
use Rattle.bureau_commands.specs.Headline.{Output, output_of}
use Rattle.bureau_commands.specs.Due.{IsLiveDue, IsNotBegunDue, WroteTaking, no_output_memory, not_begun}
use Rattle.bureau_commands.proofs.Bound.{none_asked}
use Rattle.bureau_commands.proofs.LiveCauses.{begun_no_source, stopped_failed}
use Rattle.bureau_commands.proofs.Served.{wrote_broken, wrote_live}
use Rattle.live_runs.specs.printed_text.proofs.Statuses.{kept_untold, sink_told, told_behind}
use Rattle.bureau_commands.proofs.live.serve_source.Goals as goal

-- ---- there was no memory for the intake

pub returns-in_default-clause-wrote : goal.returns-in_default-clause-wrote
returns-in_default-clause-wrote g c =
    wrote_line (IsLiveDue g.S.Source.left g.D.Disk.seen (output_of (g.K.Sink.held c.args.sink.now) (g.K.Sink.held c.tell_no_memory.new.sink) (g.W.Witness.shown c.args.witness.now) (g.W.Witness.shown c.args.witness.now)) c.args.source.now c.args.source.now c.args.disk c.args.disk) _ _ statuses.Memory memory_text _
    (not_begun refl statuses.Memory memory_text (λ is. cc) (no_output_memory refl)) c.tell_no_memory.ensures.written

pub returns-in_default-clause-read_fault : goal.returns-in_default-clause-read_fault
returns-in_default-clause-read_fault g c = λ source. absurd (no_other statuses.Source _ _ statuses.Memory memory_text _ (λ e. cc) (λ e. cc) c.tell_no_memory.ensures.written source)

pub returns-in_default-clause-write_fault : goal.returns-in_default-clause-write_fault
returns-in_default-clause-write_fault g c = c.tell_no_memory.ensures.failed

pub new-requires : goal.new-requires
new-requires g c = omega arith

-- ---- no batch was served

pub returns-in-Err-clause-wrote : goal.returns-in-Err-clause-wrote
returns-in-Err-clause-wrote g c =
    let output : Output g.row.D.Denot = output_of (g.K.Sink.held c.args.sink.now) (g.K.Sink.held c.begin.new.sink) (g.W.Witness.shown c.args.witness.now) (g.W.Witness.shown c.begin.new.witness) in
    wrote_for (IsNotBegunDue g.D.Disk.seen output c.args.disk c.in-Err.field-0.disk) (IsLiveDue g.S.Source.left g.D.Disk.seen output c.args.source.now c.args.source.now c.args.disk c.in-Err.field-0.disk) (g.K.Sink.held c.args.sink.now) (g.K.Sink.held c.begin.new.sink) c.in-Err.field-0.status
    (λ s t h. not_begun refl s t h.0 (h.1 [] none_asked)) c.in-Err.ensures.wrote

pub returns-in-Err-clause-read_fault : goal.returns-in-Err-clause-read_fault
returns-in-Err-clause-read_fault g c = λ source. absurd (begun_no_source g.D.Disk.seen (output_of (g.K.Sink.held c.args.sink.now) (g.K.Sink.held c.begin.new.sink) (g.W.Witness.shown c.args.witness.now) (g.W.Witness.shown c.begin.new.witness)) c.args.disk c.in-Err.field-0.disk (g.K.Sink.held c.args.sink.now) (g.K.Sink.held c.begin.new.sink) c.in-Err.field-0.status c.in-Err.ensures.wrote source)

pub returns-in-Err-clause-write_fault : goal.returns-in-Err-clause-write_fault
returns-in-Err-clause-write_fault g c = c.in-Err.ensures.write_fault

-- ---- the batches

pub serve_input-due-requires-clause-fresh : goal.serve_input-due-requires-clause-fresh
serve_input-due-requires-clause-fresh g c = λ κs outlives. c.in-Ok.ensures

pub serve_input-due-requires-clause-empty : goal.serve_input-due-requires-clause-empty
serve_input-due-requires-clause-empty g c = λ κs outlives. c.in-Ok-begin.ensures.empty

pub serve_input-due-requires-clause-spare : goal.serve_input-due-requires-clause-spare
serve_input-due-requires-clause-spare g c = λ κs outlives. c.in-Ok-begin.ensures.room

pub returns-then-sink_failed-clause-wrote : goal.returns-then-sink_failed-clause-wrote
returns-then-sink_failed-clause-wrote g c =
    let begun = c.in-Ok-begin.ensures.begun in
    let served = c.serve_input-due.ensures.served in
    let sink = c.sink_failed.ensures.failed c.if-sink_failed.true in
    subst (λ (d : g.row.D.Denot). WroteTaking (λ output. IsLiveDue g.S.Source.left g.D.Disk.seen output c.args.source.now c.serve_input-due.new.source c.args.disk d) (g.K.Sink.held c.args.sink.now) (g.K.Sink.held c.serve_input-due.new.sink) (g.W.Witness.shown c.args.witness.now) (g.W.Witness.shown c.serve_input-due.new.witness) statuses.Sink) (sym c.close-disk.ensures.disk)
    (wrote_broken g.D.Disk.seen c.args.disk c.in-Ok-begin.begun.desk c.serve_input-due.result.2 begun.opening c.close-disk.ensures.keeps c.close-disk.ensures.counted served.ran.opening g.S.Source.left c.args.source.now c.serve_input-due.new.source (g.S.Source.faults c.args.source.now) (g.S.Source.faults c.serve_input-due.new.source) (g.K.Sink.held c.args.sink.now) (g.K.Sink.held c.begin.new.sink) (g.K.Sink.held c.serve_input-due.new.sink)
    (g.W.Witness.shown c.args.witness.now) (g.W.Witness.shown c.begin.new.witness) (g.W.Witness.shown c.serve_input-due.new.witness) c.serve_input-due.result.1 c.serve_input-due.result.0 sink begun served)

pub returns-then-sink_failed-clause-read_fault : goal.returns-then-sink_failed-clause-read_fault
returns-then-sink_failed-clause-read_fault g c = λ source. cc

pub returns-then-sink_failed-clause-write_fault : goal.returns-then-sink_failed-clause-write_fault
returns-then-sink_failed-clause-write_fault g c =
    told_behind _ _ _ _ c.in-Ok-begin.ensures.kept (sink_told _ _ (c.serve_input-due.ensures.write_fault.risen (c.sink_failed.ensures.failed c.if-sink_failed.true)))

-- ---- the fault by which the reading ended

pub tell_stop-requires-clause-due : goal.tell_stop-requires-clause-due
tell_stop-requires-clause-due g c = c.sink_failed.ensures.took c.if-sink_failed.false

pub tell_stop-requires-clause-empty : goal.tell_stop-requires-clause-empty
tell_stop-requires-clause-empty g c = c.serve_input-due.ensures.emptied (c.sink_failed.ensures.took c.if-sink_failed.false)

pub tell_stop-requires-clause-spare : goal.tell_stop-requires-clause-spare
tell_stop-requires-clause-spare g c = c.serve_input-due.ensures.room

pub returns-clause-wrote : goal.returns-clause-wrote
returns-clause-wrote g c =
    let begun = c.in-Ok-begin.ensures.begun in
    let served = c.serve_input-due.ensures.served in
    let took = c.sink_failed.ensures.took c.if-sink_failed.false in
    subst (λ (d : g.row.D.Denot). WroteTaking (λ output. IsLiveDue g.S.Source.left g.D.Disk.seen output c.args.source.now c.serve_input-due.new.source c.args.disk d) (g.K.Sink.held c.args.sink.now) (g.K.Sink.held c.tell_stop.new.sink) (g.W.Witness.shown c.args.witness.now) (g.W.Witness.shown c.serve_input-due.new.witness) c.tell_stop.result) (sym c.close-disk.ensures.disk)
    (wrote_live g.D.Disk.seen c.args.disk c.in-Ok-begin.begun.desk c.serve_input-due.result.2 begun.opening c.close-disk.ensures.keeps c.close-disk.ensures.counted served.ran.opening g.S.Source.left c.args.source.now c.serve_input-due.new.source (g.S.Source.faults c.args.source.now) (g.S.Source.faults c.serve_input-due.new.source) (g.K.Sink.held c.args.sink.now) (g.K.Sink.held c.begin.new.sink) (g.K.Sink.held c.serve_input-due.new.sink) (g.K.Sink.held c.tell_stop.new.sink)
    (g.W.Witness.shown c.args.witness.now) (g.W.Witness.shown c.begin.new.witness) (g.W.Witness.shown c.serve_input-due.new.witness) c.serve_input-due.result.1 begun c.serve_input-due.result.0 c.tell_stop.result took served c.tell_stop.ensures.written)

pub returns-clause-read_fault : goal.returns-clause-read_fault
returns-clause-read_fault g c = λ source.
    c.serve_input-due.ensures.served.failed (stopped_failed (g.K.Sink.held c.serve_input-due.new.sink) (g.K.Sink.held c.tell_stop.new.sink) c.serve_input-due.result.1 c.serve_input-due.result.0 c.tell_stop.result c.serve_input-due.ensures.no_read_fault c.tell_stop.ensures.written source)

pub returns-clause-write_fault : goal.returns-clause-write_fault
returns-clause-write_fault g c =
    let took = c.sink_failed.ensures.took c.if-sink_failed.false in
    told_behind _ _ _ _ (kept_untold _ _ _ c.serve_input-due.ensures.later took c.serve_input-due.ensures.write_fault ∙ c.in-Ok-begin.ensures.kept) c.tell_stop.ensures.write_fault
