use Rattle.std.specs.Prelude.{None, Some}
use Rattle.live_reading.specs.declared.reading.TheConstants.{MOST_ASKED}
use Rattle.std.proofs.Common.{rules, ◌∙◌, ◌<◌, All, arith, refl, vec_len}
use Rattle.live_reading.specs.Reading.{HasGoneOn}
use Rattle.live_reading.specs.Rings.{IsOpen}
use Rattle.live_reading.specs.Sparing.{KeepsSpare}
use Rattle.live_reading.proofs.InReading.{gone_nowhere, gone_twice}
use Rattle.live_reading.proofs.Spared.{keeps_twice}
use Rattle.live_reading.proofs.reading.hand_lines.Goals as goal

pub loop-init : goal.loop-init
loop-init g c = record {
  begun = c.requires.begun;
  all = c.requires.all;
  open_ = c.requires.open;
  few = c.requires.few.0;
  spare = c.requires.few.1;
  gone = gone_nowhere (g.S.Source.left c.args.source.now) (g.S.Source.faults c.args.source.now) c.args.intake.now c.args.rings.now c.args.requests.now.items c.requires.begun;
  items = refl;
  len = refl;
  answers = c.requires.answers;
  later = omega arith;
  kept = λ some. absurd (omega (arith, some));
}

pub loop-preserved : goal.loop-preserved
loop-preserved g c =
    let inv = c.loop.invariant in
    let told = c.hand_next.ensures in
    let left = g.S.Source.left in
    let faults = g.S.Source.faults in
    let now : HasGoneOn (left c.loop.source) (left c.hand_next.new.source) (faults c.loop.source) (faults c.hand_next.new.source) c.loop.intake c.hand_next.new.intake c.loop.rings c.hand_next.new.rings c.loop.requests.items c.hand_next.new.requests.items None = search rules in
    let on : All IsOpen c.hand_next.new.rings × (vec_len c.hand_next.new.requests < MOST_ASKED) = search rules in
    let kept : KeepsSpare c.loop.intake c.hand_next.new.intake c.loop.answers c.hand_next.new.answers (vec_len c.hand_next.new.requests) None = search rules in
    record {
      begun = now.ends.0;
      all = now.sent.all ∙ inv.all;
      open_ = on.0;
      few = on.1;
      spare = told.few.1;
      gone = gone_twice (left c.args.source.now) (left c.loop.source) (left c.hand_next.new.source) (faults c.args.source.now) (faults c.loop.source) (faults c.hand_next.new.source) c.args.intake.now c.loop.intake c.hand_next.new.intake
          c.args.rings.now c.loop.rings c.hand_next.new.rings c.args.requests.now.items c.loop.requests.items c.hand_next.new.requests.items None inv.gone now;
      items = kept.items ∙ inv.items;
      len = kept.len ∙ inv.len;
      answers = kept.spare refl;
      later = let one = kept.moves refl in omega (arith, one, inv.later);
      kept = λ some. keeps_twice c.args.intake.now c.loop.intake c.hand_next.new.intake c.args.answers.now c.loop.answers c.hand_next.new.answers (vec_len c.hand_next.new.requests) None inv.items inv.len inv.later kept;
    }

pub returns-in-Full-clause-gone : goal.returns-in-Full-clause-gone
returns-in-Full-clause-gone g c =
    let left = g.S.Source.left in
    let faults = g.S.Source.faults in
    let now : HasGoneOn (left c.loop.source) (left c.hand_next.new.source) (faults c.loop.source) (faults c.hand_next.new.source) c.loop.intake c.hand_next.new.intake c.loop.rings c.hand_next.new.rings c.loop.requests.items c.hand_next.new.requests.items None = search rules in
    gone_twice (left c.args.source.now) (left c.loop.source) (left c.hand_next.new.source) (faults c.args.source.now) (faults c.loop.source) (faults c.hand_next.new.source) c.args.intake.now c.loop.intake c.hand_next.new.intake
    c.args.rings.now c.loop.rings c.hand_next.new.rings c.args.requests.now.items c.loop.requests.items c.hand_next.new.requests.items None c.loop.invariant.gone now

pub returns-in-Over-clause-gone : goal.returns-in-Over-clause-gone
returns-in-Over-clause-gone g c =
    let left = g.S.Source.left in
    let faults = g.S.Source.faults in
    let why = c.in-Over.stop in
    let now : HasGoneOn (left c.loop.source) (left c.hand_next.new.source) (faults c.loop.source) (faults c.hand_next.new.source) c.loop.intake c.hand_next.new.intake c.loop.rings c.hand_next.new.rings c.loop.requests.items c.hand_next.new.requests.items (Some why) = search rules in
    gone_twice (left c.args.source.now) (left c.loop.source) (left c.hand_next.new.source) (faults c.args.source.now) (faults c.loop.source) (faults c.hand_next.new.source) c.args.intake.now c.loop.intake c.hand_next.new.intake
    c.args.rings.now c.loop.rings c.hand_next.new.rings c.args.requests.now.items c.loop.requests.items c.hand_next.new.requests.items (Some why) c.loop.invariant.gone now

pub returns-in-Full-clause-answers : goal.returns-in-Full-clause-answers
returns-in-Full-clause-answers g c =
    let inv = c.loop.invariant in
    let kept : KeepsSpare c.loop.intake c.hand_next.new.intake c.loop.answers c.hand_next.new.answers (vec_len c.hand_next.new.requests) None = search rules in
    keeps_twice c.args.intake.now c.loop.intake c.hand_next.new.intake c.args.answers.now c.loop.answers c.hand_next.new.answers (vec_len c.hand_next.new.requests) None inv.items inv.len inv.later kept

pub returns-in-Over-clause-answers : goal.returns-in-Over-clause-answers
returns-in-Over-clause-answers g c =
    let inv = c.loop.invariant in
    let kept : KeepsSpare c.loop.intake c.hand_next.new.intake c.loop.answers c.hand_next.new.answers (vec_len c.hand_next.new.requests) (Some c.in-Over.stop) = search rules in
    keeps_twice c.args.intake.now c.loop.intake c.hand_next.new.intake c.args.answers.now c.loop.answers c.hand_next.new.answers (vec_len c.hand_next.new.requests) (Some c.in-Over.stop) inv.items inv.len inv.later kept

pub returns-clause-gone : goal.returns-clause-gone
returns-clause-gone g c = c.loop.invariant.gone

pub returns-clause-answers : goal.returns-clause-answers
returns-clause-answers g c = c.loop.invariant.kept (omega (arith, c.requires.some, c.loop-test.false))
