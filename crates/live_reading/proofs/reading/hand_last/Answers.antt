use Rattle.std.specs.Prelude.{None, Some}
use Rattle.std.proofs.Common.{rules}
use Rattle.input_front.specs.declared.line.Line.TheVariants as line
use Rattle.input_front.specs.Taken.{HasLast}
use Rattle.live_reading.proofs.InReading.{last_asked_of, last_bad_of, last_fence_of, last_memory_of, last_none_of}
use Rattle.live_reading.proofs.reading.hand_last.Goals as goal

pub returns-in-Some-Asks-clause-last : goal.returns-in-Some-Asks-clause-last
returns-in-Some-Asks-clause-last c =
    let h : HasLast c.args.intake.now (Some (line.Asks c.in-Some-Asks.request)) = search rules in
    last_asked_of c.args.intake.now c.args.rings.now c.hand_one.new.rings c.args.requests.now.items c.hand_one.new.requests.items c.in-Some-Asks.request c.requires.begun c.requires.none h.0.can.by h c.hand_one.ensures.handed c.hand_one.ensures.noted

pub returns-in-Some-Bad-clause-last : goal.returns-in-Some-Bad-clause-last
returns-in-Some-Bad-clause-last c =
    let h : HasLast c.args.intake.now (Some (line.Bad c.in-Some-Bad.line c.in-Some-Bad.cause)) = search rules in
    last_bad_of c.args.intake.now c.args.rings.now c.args.requests.now.items c.in-Some-Bad.line c.in-Some-Bad.cause c.requires.begun h

pub returns-in-Some-Memory-clause-last : goal.returns-in-Some-Memory-clause-last
returns-in-Some-Memory-clause-last c = last_memory_of c.args.intake.now c.args.rings.now c.args.requests.now.items c.requires.begun

pub returns-in-Some-Fence-clause-last : goal.returns-in-Some-Fence-clause-last
returns-in-Some-Fence-clause-last c =
    let h : HasLast c.args.intake.now (Some line.Fence) = search rules in
    last_fence_of c.args.intake.now c.args.rings.now c.args.requests.now.items c.requires.begun c.requires.none h

pub returns-in-Some-Fence-2-clause-last : goal.returns-in-Some-Fence-2-clause-last
returns-in-Some-Fence-2-clause-last c =
    let h : HasLast c.args.intake.now None = search rules in
    last_none_of c.args.intake.now c.args.rings.now c.args.requests.now.items c.requires.begun c.requires.none h
