use Rattle.std.proofs.Common.{subst}
use Rattle.group_runs.specs.Runs.{HasBroken, groups_of}
use Rattle.load_command.proofs.Loaded.{wrote_loaded, wrote_unkept, wrote_untold}
use Rattle.load_command.proofs.serving.load_requests.Goals as goal

pub returns-in-Ok-load_batches-clause-wrote : goal.returns-in-Ok-load_batches-clause-wrote
returns-in-Ok-load_batches-clause-wrote g c =
    let b = c.in-Ok.ensures.begun in
    wrote_loaded g.D.Disk.seen g.met.D.Disk.reads_now c.args.disk c.in-Ok.begun.loader b.from b.opened c.args.batches.now c.requires.can (g.K.Sink.held c.args.sink.now) (g.K.Sink.held c.begin.new.sink) (g.K.Sink.held c.load_batches.new.sink)
    (g.W.Witness.shown c.args.witness.now) (g.W.Witness.shown c.begin.new.witness) (g.W.Witness.shown c.load_batches.new.witness) b.shown b.printed
    c.in-Ok-load_batches.disk c.in-Ok-load_batches.status c.in-Ok-load_batches.ensures.loaded

pub returns-in-Err-Sink-clause-wrote : goal.returns-in-Err-Sink-clause-wrote
returns-in-Err-Sink-clause-wrote g c =
    let b = c.in-Ok.ensures.begun in
    wrote_untold g.D.Disk.seen g.met.D.Disk.reads_now c.args.disk c.in-Ok.begun.loader b.from b.opened c.args.batches.now c.requires.can (g.K.Sink.held c.args.sink.now) (g.K.Sink.held c.begin.new.sink) (g.K.Sink.held c.load_batches.new.sink)
    (g.W.Witness.shown c.args.witness.now) (g.W.Witness.shown c.begin.new.witness) (g.W.Witness.shown c.load_batches.new.witness) b.shown b.printed
    c.in-Err-Sink.disk
    (subst (HasBroken g.D.Disk.seen c.in-Ok.begun.loader (groups_of c.args.batches.now) (g.K.Sink.held c.begin.new.sink) (g.K.Sink.held c.load_batches.new.sink)
    (g.W.Witness.shown c.begin.new.witness) (g.W.Witness.shown c.load_batches.new.witness)) c.in-Err-Sink.field-0-is c.in-Err-Sink.ensures.broken)

pub returns-clause-wrote : goal.returns-clause-wrote
returns-clause-wrote g c =
    let b = c.in-Ok.ensures.begun in
    wrote_unkept g.D.Disk.seen g.met.D.Disk.reads_now c.args.disk c.in-Ok.begun.loader b.from b.opened c.args.batches.now c.requires.can (g.K.Sink.held c.args.sink.now) (g.K.Sink.held c.begin.new.sink) (g.K.Sink.held c.load_batches.new.sink)
    (g.W.Witness.shown c.args.witness.now) (g.W.Witness.shown c.begin.new.witness) (g.W.Witness.shown c.load_batches.new.witness) b.shown b.printed
    (g.K.Sink.held c.tell_device.new.sink) c.in-Err-Disk.stopped c.tell_device.result
    (subst (HasBroken g.D.Disk.seen c.in-Ok.begun.loader (groups_of c.args.batches.now) (g.K.Sink.held c.begin.new.sink) (g.K.Sink.held c.load_batches.new.sink)
    (g.W.Witness.shown c.begin.new.witness) (g.W.Witness.shown c.load_batches.new.witness)) c.in-Err-Disk.field-0-is c.in-Err-Disk.ensures.broken) c.tell_device.ensures.written
