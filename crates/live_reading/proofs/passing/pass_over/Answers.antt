use Rattle.std.proofs.Common.{rules, ◌≡◌}
use Rattle.input_front.specs.declared.line.Line.TheVariants as line
use Rattle.input_front.specs.Taken.{HasNext, HasNoLine}
use Rattle.live_reading.proofs.Passed.{passed_bad, passed_fence, passed_memory, passes_more, passes_none}
use Rattle.live_reading.proofs.passing.pass_over.Goals as goal

pub loop-intake-init : goal.loop-intake-init
loop-intake-init c = record { passing = passes_none c.args.intake.now c.requires }

pub loop-intake-preserved-in-Some-Asks : goal.loop-intake-preserved-in-Some-Asks
loop-intake-preserved-in-Some-Asks c =
    let h : HasNext c.loop-intake.intake c.next.new.self (line.Asks c.in-Some-Asks.field-0-0) = search rules in
    record { passing = passes_more c.args.intake.now c.loop-intake.intake c.loop-intake.invariant.passing c.next.new.self c.in-Some-Asks.field-0-0 h }

pub loop-intake-preserved-in-Some-Asks-2 : goal.loop-intake-preserved-in-Some-Asks-2
loop-intake-preserved-in-Some-Asks-2 c =
    let h : HasNext c.loop-intake.intake c.next.new.self (line.Asks c.in-Some-Asks.field-0-0) = search rules in
    record { passing = passes_more c.args.intake.now c.loop-intake.intake c.loop-intake.invariant.passing c.next.new.self c.in-Some-Asks.field-0-0 h }

pub returns-in-Some-Fence : goal.returns-in-Some-Fence
returns-in-Some-Fence c =
    let h : HasNext c.loop-intake.intake c.next.new.self line.Fence = search rules in
    passed_fence c.args.intake.now c.loop-intake.intake c.loop-intake.invariant.passing c.next.new.self h

pub returns-in-Some-Bad : goal.returns-in-Some-Bad
returns-in-Some-Bad c =
    let h : HasNext c.loop-intake.intake c.next.new.self (line.Bad c.in-Some-Bad.line c.in-Some-Bad.cause) = search rules in
    passed_bad c.args.intake.now c.loop-intake.intake c.loop-intake.invariant.passing c.next.new.self c.in-Some-Bad.line c.in-Some-Bad.cause h

pub returns-in-Some-Memory : goal.returns-in-Some-Memory
returns-in-Some-Memory c =
    let h : HasNext c.loop-intake.intake c.next.new.self line.Memory = search rules in
    passed_memory c.args.intake.now c.loop-intake.intake c.loop-intake.invariant.passing c.next.new.self h.0

pub returns-in-None : goal.returns-in-None
returns-in-None c =
    let h : (c.next.new.self ≡ c.loop-intake.intake) × HasNoLine c.loop-intake.intake = search rules in
    passed_memory c.args.intake.now c.loop-intake.intake c.loop-intake.invariant.passing c.next.new.self h.0
