use Rattle.std.proofs.Common.{◌≡◌, refl, subst, sym}
use Rattle.bureau_edge.specs.Streams.{TakesAll}
use Rattle.setoff_model.specs.declared.limits.TheConstants.{MOST_INPUT_BYTES}
use Rattle.load_command.specs.Headline.{HasTakenInOrder}
use Rattle.load_command.specs.Inputs.{IsInputDue}
use Rattle.load_command.proofs.Statuses.{no_source}
use Rattle.journal_texts.proofs.Inputs.{source_failed, wrote_read, wrote_unread}
use Rattle.load_command.proofs.top.load_source.Goals as goal

pub returns-in-Ok-clause-wrote : goal.returns-in-Ok-clause-wrote
returns-in-Ok-clause-wrote g c =
    let taken = subst (TakesAll MOST_INPUT_BYTES (g.S.Source.left c.args.source.now) (g.S.Source.left c.read_whole.new.source)) (sym c.as_slice.ensures.value) c.in-Ok.ensures.all in
    let Taken = HasTakenInOrder g.D.Disk.seen c.load_input.result.1 (g.K.Sink.held c.args.sink.now) (g.K.Sink.held c.load_input.new.sink) (g.W.Witness.shown c.args.witness.now) (g.W.Witness.shown c.load_input.new.witness) in
    wrote_read (IsInputDue g.D.Disk.seen Taken c.args.disk c.load_input.result.1) (c.load_input.result.1 ≡ c.args.disk) _ _ _ _ c.as_slice.result.now c.load_input.result.0 taken c.load_input.ensures.wrote

pub returns-in-Ok-clause-read_fault : goal.returns-in-Ok-clause-read_fault
returns-in-Ok-clause-read_fault g c = λ source. absurd (no_source _ _ _ _ _ _ _ _ c.load_input.ensures.wrote source)

pub returns-in-Ok-clause-write_fault : goal.returns-in-Ok-clause-write_fault
returns-in-Ok-clause-write_fault g c = c.load_input.ensures.write_fault

pub returns-in-Err-clause-wrote : goal.returns-in-Err-clause-wrote
returns-in-Err-clause-wrote g c =
    let Taken = HasTakenInOrder g.D.Disk.seen c.args.disk (g.K.Sink.held c.args.sink.now) (g.K.Sink.held c.tell_unread.new.sink) (g.W.Witness.shown c.args.witness.now) (g.W.Witness.shown c.args.witness.now) in
    wrote_unread (IsInputDue g.D.Disk.seen Taken c.args.disk c.args.disk) (c.args.disk ≡ c.args.disk) _ _ _ _ c.in-Err.end c.tell_unread.result refl c.in-Err.ensures.end c.tell_unread.ensures.written

pub returns-in-Err-clause-read_fault : goal.returns-in-Err-clause-read_fault
returns-in-Err-clause-read_fault g c = λ source. c.in-Err.ensures.failed (source_failed _ _ _ _ c.tell_unread.ensures.written source)

pub returns-in-Err-clause-write_fault : goal.returns-in-Err-clause-write_fault
returns-in-Err-clause-write_fault g c = c.tell_unread.ensures.write_fault
