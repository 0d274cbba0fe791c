use Rattle.std.specs.Io.KnownBytes.{Appends}
use Rattle.std.proofs.Common.{◌≡◌, ◌∙◌, true, false, [], ap, sym, arith, refl, ◌∷◌}
use Rattle.bureau_edge.specs.Streams.{AppendsPart}
use Rattle.batch_runs.specs.Serving.{text_between}
use Rattle.batch_runs.proofs.Printed.{at_err, at_ok, run_among}
use Rattle.live_intake.specs.input_front.specs.Taken.{IntakeView}
use Rattle.live_intake.specs.live_reading.specs.Fronts.{is_fence}
use Rattle.live_runs.proofs.Going.{fence_only, serving_breaks, serving_ends, serving_more, serving_none}
use Rattle.batch_runs.specs.printed_text.specs.declared.exit_status.ExitStatus.TheVariants as statuses
use Rattle.batch_runs.specs.printed_text.proofs.Statuses.{sink_told, told_behind, none_told, other_than}
use Rattle.live_runs.proofs.serving.serve_input.Goals as goal

pub loop-alloc-init : goal.loop-alloc-init
loop-alloc-init g c = record {
  serving = serving_none g.D.Disk.seen (g.S.Source.left c.args.source.now) (g.S.Source.faults c.args.source.now) c.args.desk (g.K.Sink.held c.args.sink.now) (g.W.Witness.shown c.args.witness.now)
      c.args.intake c.requires.fresh c.batches.ensures.batches c.new-tally.result c.new-tally.ensures;
  few = omega (arith, ap (λ (v : IntakeView). v.served) c.requires.fresh);
  empty = c.requires.empty;
  room = c.requires.spare;
  kept = refl;
}

-- ---- the sink failed

pub returns-then-is_err-clause-served : goal.returns-then-is_err-clause-served
returns-then-is_err-clause-served g c =
    let now = c.loop-alloc in
    let one = c.serve_next-after in
    let told = one.ensures.told in
    let y = g.K.Sink.held now.sink in
    let z = g.K.Sink.held one.new.sink in
    let part = at_err one.result.2 (AppendsPart y z (text_between now.desk.history one.result.0.history told.live.batch told.told.answers))
    (sym c.is_err.ensures.value ∙ c.if-is_err.true) told.told.part in
    serving_breaks g.D.Disk.seen (g.S.Source.left c.args.source.now) (g.S.Source.faults c.args.source.now) c.args.desk (g.K.Sink.held c.args.sink.now) (g.W.Witness.shown c.args.witness.now)
    g.S.Source.left g.S.Source.faults now.desk one.result.0 now.source one.new.source now.intake one.new.intake now.tally one.new.tally y z (g.W.Witness.shown now.witness) (g.W.Witness.shown one.new.witness) one.result.1 one.result.2
    now.invariant.serving told one.ensures.later part

pub returns-then-is_err-clause-write_fault : goal.returns-then-is_err-clause-write_fault
returns-then-is_err-clause-write_fault g c =
    told_behind _ _ _ _ c.loop-alloc.invariant.kept (sink_told _ _ (c.serve_next-after.ensures.cause.cause (sym c.is_err.ensures.value ∙ c.if-is_err.true)))

-- ---- it took the text

pub returns-then-not-by_fence-clause-served : goal.returns-then-not-by_fence-clause-served
returns-then-not-by_fence-clause-served g c =
    let now = c.loop-alloc in
    let one = c.serve_next-after in
    let told = one.ensures.told in
    let y = g.K.Sink.held now.sink in
    let z = g.K.Sink.held one.new.sink in
    let ok = at_ok one.result.2 (Appends y z (text_between now.desk.history one.result.0.history told.live.batch told.told.answers))
    (sym c.is_err.ensures.value ∙ c.if-is_err.false) told.told.ok in
    let off : is_fence one.result.1 ≡ false = sym c.by_fence.ensures ∙ c.if-not-by_fence.true in
    serving_ends g.D.Disk.seen (g.S.Source.left c.args.source.now) (g.S.Source.faults c.args.source.now) c.args.desk (g.K.Sink.held c.args.sink.now) (g.W.Witness.shown c.args.witness.now)
    g.S.Source.left g.S.Source.faults now.desk one.result.0 now.source one.new.source now.intake one.new.intake now.tally one.new.tally y z (g.W.Witness.shown now.witness) (g.W.Witness.shown one.new.witness) one.result.1 one.result.2
    now.invariant.serving told one.ensures.later ok c.status.result c.status.ensures off

pub returns-then-not-by_fence-clause-write_fault : goal.returns-then-not-by_fence-clause-write_fault
returns-then-not-by_fence-clause-write_fault g c =
    let now = c.loop-alloc in
    let one = c.serve_next-after in
    let t = one.new.tally in
    none_told _ _ _ (at_ok one.result.2 (g.K.Sink.faults one.new.sink ≡ g.K.Sink.faults now.sink) (sym c.is_err.ensures.value ∙ c.if-is_err.false) one.ensures.cause.kept ∙ now.invariant.kept)
    (λ sink. other_than statuses.Sink (statuses.Done ∷ statuses.Disk ∷ statuses.Limit ∷ statuses.Memory ∷ []) _ refl (sym c.status.ensures ∙ sink) (run_among t.memory t.device t.full))

pub loop-alloc-preserved : goal.loop-alloc-preserved
loop-alloc-preserved g c =
    let now = c.loop-alloc in
    let one = c.serve_next-after in
    let told = one.ensures.told in
    let y = g.K.Sink.held now.sink in
    let z = g.K.Sink.held one.new.sink in
    let kept = sym c.is_err.ensures.value ∙ c.if-is_err.false in
    let ok = at_ok one.result.2 (Appends y z (text_between now.desk.history one.result.0.history told.live.batch told.told.answers)) kept told.told.ok in
    let on : is_fence one.result.1 ≡ true = sym c.by_fence.ensures ∙ c.if-not-by_fence.false in
    let serving = serving_more g.D.Disk.seen (g.S.Source.left c.args.source.now) (g.S.Source.faults c.args.source.now) c.args.desk (g.K.Sink.held c.args.sink.now) (g.W.Witness.shown c.args.witness.now)
    g.S.Source.left g.S.Source.faults now.desk one.result.0 now.source one.new.source now.intake one.new.intake now.tally one.new.tally y z (g.W.Witness.shown now.witness) (g.W.Witness.shown one.new.witness) one.result.1 one.result.2
    now.invariant.serving told one.ensures.later ok (fence_only one.result.1 on) in
    record {
      serving = serving;
      few = omega (arith, c.batches-in-loop-alloc.ensures.few, c.batches-in-loop-alloc.ensures.held, serving.limit_is);
      empty = at_ok one.result.2 (one.new.buffer.items ≡ []) kept one.ensures.emptied;
      room = one.ensures.room;
      kept = at_ok one.result.2 (g.K.Sink.faults one.new.sink ≡ g.K.Sink.faults now.sink) kept one.ensures.cause.kept ∙ now.invariant.kept;
    }
