use Rattle.std.specs.Prelude.{None, Some}
use Rattle.std.proofs.Common.{List, arith, refl, sym, subst}
use Rattle.turn_lock.specs.Seats.{registrar_view}
use Rattle.lane_runner.proofs.Ran.{IsCleared, not_run, run}
use Rattle.lane_runner.specs.served_lines.specs.declared.answer.Answer.{Answer}
use Rattle.lane_runner.specs.declared.batch.BatchEnd.{BatchEnd}
use Rattle.live_intake.specs.Live.{HasRunLive}
use Rattle.live_reading.proofs.Spared.{spare_start}
use Rattle.live_intake.proofs.OneBatch.{has_run}
use Rattle.live_intake.proofs.live.run_live.Goals as goal

pub returns-in_default-clause-ran : goal.returns-in_default-clause-ran
returns-in_default-clause-ran g c =
    let old = c.args.desk in
    let start = c.clear_rounds.new.self in
    let cleared : IsCleared old start = record { disk = c.clear_rounds.ensures.disk; history = c.clear_rounds.ensures.history; at_clearing = c.clear_rounds.ensures.cleared; cleared_with = c.clear_rounds.ensures.cleared_with; opening = c.clear_rounds.ensures.opening } in
    let source = c.args.source.now in
    let left = g.S.Source.left source in
    let faults = g.S.Source.faults source in
    let told = c.end_unserved.ensures.passed in
    let new = c.end_unserved.new.intake in
    let why = c.end_unserved.result.stop in
    let ran = has_run g.D.Disk.seen g.S.Source.left g.S.Source.faults old start source source c.args.intake.now c.begin.new.self new None why c.requires c.batches.ensures.batches c.begin.ensures.begun c.begin.ensures.reads
    (told.taken left faults) told.batch (not_run g.D.Disk.seen old start cleared c.books-books.ensures.keeps start refl told.batch) (told.ends left faults) (λ none. (told.numbered, told.lines_are)) in
    subst (λ (e : BatchEnd g.row.D.Denot). HasRunLive g.D.Disk.seen g.S.Source.left g.S.Source.faults old e.desk source source c.args.intake.now new e.answers why) (sym c.end_unserved.ensures.end) ran

pub returns-in-Err-clause-ran : goal.returns-in-Err-clause-ran
returns-in-Err-clause-ran g c =
    let old = c.args.desk in
    let start = c.clear_rounds.new.self in
    let cleared : IsCleared old start = record { disk = c.clear_rounds.ensures.disk; history = c.clear_rounds.ensures.history; at_clearing = c.clear_rounds.ensures.cleared; cleared_with = c.clear_rounds.ensures.cleared_with; opening = c.clear_rounds.ensures.opening } in
    let source = c.args.source.now in
    let left = g.S.Source.left source in
    let faults = g.S.Source.faults source in
    let told = c.end_unserved-in-Err.ensures.passed in
    let new = c.end_unserved-in-Err.new.intake in
    let why = c.end_unserved-in-Err.result.stop in
    let ran = has_run g.D.Disk.seen g.S.Source.left g.S.Source.faults old c.in-Err.field-0.value source source c.args.intake.now c.begin.new.self new None why c.requires c.batches.ensures.batches c.begin.ensures.begun c.begin.ensures.reads
    (told.taken left faults) told.batch (not_run g.D.Disk.seen old start cleared c.books-books.ensures.keeps c.in-Err.field-0.value c.in-Err.ensures.err told.batch) (told.ends left faults) (λ none. (told.numbered, told.lines_are)) in
    subst (λ (e : BatchEnd g.row.D.Denot). HasRunLive g.D.Disk.seen g.S.Source.left g.S.Source.faults old e.desk source source c.args.intake.now new e.answers why) (sym c.end_unserved-in-Err.ensures.end) ran

pub returns-in-Ok-clause-ran : goal.returns-in-Ok-clause-ran
returns-in-Ok-clause-ran g c =
    let old = c.args.desk in
    let start = c.clear_rounds.new.self in
    let cleared : IsCleared old start = record { disk = c.clear_rounds.ensures.disk; history = c.clear_rounds.ensures.history; at_clearing = c.clear_rounds.ensures.cleared; cleared_with = c.clear_rounds.ensures.cleared_with; opening = c.clear_rounds.ensures.opening } in
    let known = registrar_view c.in-Ok.registrar in
    let desk = c.serve_live-desk.result.0 in
    let answers = c.serve_live-desk.result.1.items in
    let told = c.serve_live-desk.ensures.served in
    let ran = has_run g.D.Disk.seen g.S.Source.left g.S.Source.faults old desk c.args.source.now c.serve_live-desk.new.source c.args.intake.now c.begin.new.self c.serve_live-desk.new.intake (Some answers) c.serve_live-desk.result.2 c.requires c.batches.ensures.batches c.begin.ensures.begun c.begin.ensures.reads
    c.serve_live-desk.ensures.taken told.batch
    (run g.D.Disk.seen old start cleared c.books-books.ensures.keeps known c.in-Ok.ensures.registrar.2 desk told.batch answers told.all)
    told.ends (λ none. absurd (cc none)) in
    subst (λ (a : List Answer). HasRunLive g.D.Disk.seen g.S.Source.left g.S.Source.faults old desk c.args.source.now c.serve_live-desk.new.source c.args.intake.now c.serve_live-desk.new.intake (Some a) c.serve_live-desk.result.2) (sym c.of.ensures) ran

pub serve_live-desk-requires-clause-answers : goal.serve_live-desk-requires-clause-answers
serve_live-desk-requires-clause-answers g c κs within =
    let b = c.batches.ensures.batches in
    let read = c.begin.ensures.reads b.ended b.batch b.read in
    let none = c.in-Some.ensures.room.no_answers.1 in
    let room = c.in-Some.ensures.answers in
    spare_start c.begin.new.self b.ended b.batch read c.in-Some.room.answers none (omega (arith, room))
