use Rattle.std.specs.Prelude.{None, Some}
use Rattle.std.proofs.Common.{rules, ◌≡◌, arith}
use Rattle.live_intake.specs.Batching.{HasServedMore}
use Rattle.live_reading.proofs.InReading.{none_taken, taken_twice}
use Rattle.live_intake.proofs.Served.{batch_more, batch_none}
use Rattle.live_intake.proofs.segments.serve_segments.Goals as goal

pub loop-stop-init : goal.loop-stop-init
loop-stop-init g c = record {
  begun = c.requires.begun;
  ready = c.requires.ready;
  room = c.requires.room;
  taken = none_taken c.args.intake.now;
  served = batch_none c.args.service.now.shared.now.turn (g.S.Source.left c.args.source.now) (g.S.Source.faults c.args.source.now) c.args.intake.now c.args.rings.now c.args.lanes.now c.args.answers.now.items c.requires.none c.requires.begun c.requires.ready;
  answers = c.requires.answers;
}

pub loop-stop-preserved : goal.loop-stop-preserved
loop-stop-preserved g c =
    let inv = c.loop-stop.invariant in
    let left = g.S.Source.left in
    let faults = g.S.Source.faults in
    let new = c.serve_next-ended.new in
    let told = c.serve_next-ended.ensures in
    let more : HasServedMore c.args.service.now.shared.now.turn (left new.source) (faults c.loop-stop.source) (faults new.source) c.loop-stop.intake new.intake new.rings c.loop-stop.lanes new.lanes c.loop-stop.answers.items new.answers.items None = search rules in
    let none : c.serve_next-ended.result ≡ None = search rules in
    record {
      begun = more.ends.0;
      ready = more.ready;
      room = told.room;
      taken = taken_twice (left c.args.source.now) (left c.loop-stop.source) (left new.source) (faults c.args.source.now) (faults c.loop-stop.source) (faults new.source) c.args.intake.now c.loop-stop.intake new.intake inv.taken told.taken;
      served = batch_more c.args.service.now.shared.now.turn (left c.loop-stop.source) (left new.source) (faults c.args.source.now) (faults c.loop-stop.source) (faults new.source) c.args.intake.now c.loop-stop.intake new.intake c.loop-stop.rings new.rings c.args.lanes.now c.loop-stop.lanes new.lanes
          c.loop-stop.answers.items new.answers.items inv.served None inv.taken.later more;
      answers = told.answers none;
    }

pub loop-stop-smaller : goal.loop-stop-smaller
loop-stop-smaller g c =
    let told = c.serve_next-ended.ensures in
    let none : c.serve_next-ended.result ≡ None = search rules in
    let one = told.moves none in
    omega (arith, one, c.batches.ensures.within, c.batches.ensures.held, told.taken.limit_is)

pub returns-in-Some-clause-taken : goal.returns-in-Some-clause-taken
returns-in-Some-clause-taken g c =
    let left = g.S.Source.left in
    let faults = g.S.Source.faults in
    let new = c.serve_next-ended.new in
    taken_twice (left c.args.source.now) (left c.loop-stop.source) (left new.source) (faults c.args.source.now) (faults c.loop-stop.source) (faults new.source) c.args.intake.now c.loop-stop.intake new.intake c.loop-stop.invariant.taken c.serve_next-ended.ensures.taken

pub returns-in-Some-clause-served : goal.returns-in-Some-clause-served
returns-in-Some-clause-served g c =
    let inv = c.loop-stop.invariant in
    let left = g.S.Source.left in
    let faults = g.S.Source.faults in
    let new = c.serve_next-ended.new in
    let why = c.in-Some.stop in
    let more : HasServedMore c.args.service.now.shared.now.turn (left new.source) (faults c.loop-stop.source) (faults new.source) c.loop-stop.intake new.intake new.rings c.loop-stop.lanes new.lanes c.loop-stop.answers.items new.answers.items (Some why) = search rules in
    batch_more c.args.service.now.shared.now.turn (left c.loop-stop.source) (left new.source) (faults c.args.source.now) (faults c.loop-stop.source) (faults new.source) c.args.intake.now c.loop-stop.intake new.intake c.loop-stop.rings new.rings c.args.lanes.now c.loop-stop.lanes new.lanes
    c.loop-stop.answers.items new.answers.items inv.served (Some why) inv.taken.later more
