use Rattle.std.specs.Prelude.{None}
use Rattle.live_reading.specs.declared.reading.TheConstants.{MOST_ASKED}
use Rattle.std.proofs.Common.{rules, ◌≡◌, ◌+◌, ◌≤◌, [], ◌∷◌, ◌++◌, arith, vec_capacity, vec_len}
use Rattle.input_front.specs.declared.line.Line.TheVariants as line
use Rattle.input_front.specs.declared.intake.More.TheVariants as more
use Rattle.input_front.specs.Taken.{HasCome, HasNext, HasNoLine, HasPiece}
use Rattle.live_reading.specs.Rings.{HasHanded}
use Rattle.live_reading.proofs.InReading.{goes_asked, goes_bad, goes_end, goes_failed, goes_fence, goes_long, goes_memory, goes_no_memory, goes_piece}
use Rattle.live_reading.specs.declared.stop.Stop.TheVariants as stop
use Rattle.live_reading.proofs.Spared.{keeps_asked, keeps_over, keeps_piece, keeps_reserved}
use Rattle.live_reading.proofs.reading.hand_next.Goals as goal

pub returns-in-Some-Asks-clause-gone : goal.returns-in-Some-Asks-clause-gone
returns-in-Some-Asks-clause-gone g c =
    let h : HasNext c.args.intake.now c.next.new.self (line.Asks c.in-Some-Asks.request) = search rules in
    let handed : HasHanded c.args.rings.now c.hand_one.new.rings c.in-Some-Asks.request = search rules in
    let noted : c.hand_one.new.requests.items ≡ c.args.requests.now.items ++ c.in-Some-Asks.request ∷ [] = search rules in
    goes_asked (g.S.Source.left c.args.source.now) (g.S.Source.faults c.args.source.now) c.args.intake.now c.next.new.self c.args.rings.now c.hand_one.new.rings c.args.requests.now.items c.hand_one.new.requests.items
    c.in-Some-Asks.request _ c.requires.begun h handed noted c.hand_one.ensures.on

pub returns-in-Some-Fence-clause-gone : goal.returns-in-Some-Fence-clause-gone
returns-in-Some-Fence-clause-gone g c =
    let h : HasNext c.args.intake.now c.next.new.self line.Fence = search rules in
    goes_fence (g.S.Source.left c.args.source.now) (g.S.Source.faults c.args.source.now) c.args.intake.now c.next.new.self c.args.rings.now c.args.requests.now.items c.requires.begun h

pub returns-in-Some-Bad-clause-gone : goal.returns-in-Some-Bad-clause-gone
returns-in-Some-Bad-clause-gone g c =
    let h : HasNext c.args.intake.now c.next.new.self (line.Bad c.in-Some-Bad.line c.in-Some-Bad.cause) = search rules in
    goes_bad (g.S.Source.left c.args.source.now) (g.S.Source.faults c.args.source.now) c.args.intake.now c.next.new.self c.args.rings.now c.args.requests.now.items c.in-Some-Bad.line c.in-Some-Bad.cause _ c.requires.begun h (search rules)

pub returns-in-Some-Memory-clause-gone : goal.returns-in-Some-Memory-clause-gone
returns-in-Some-Memory-clause-gone g c =
    let h : HasNext c.args.intake.now c.next.new.self line.Memory = search rules in
    goes_memory (g.S.Source.left c.args.source.now) (g.S.Source.faults c.args.source.now) c.args.intake.now c.next.new.self c.args.rings.now c.args.requests.now.items c.requires.begun h.0

pub returns-in-Some-clause-gone : goal.returns-in-Some-clause-gone
returns-in-Some-clause-gone g c =
    let none : (c.next.new.self ≡ c.args.intake.now) × HasNoLine c.args.intake.now = search rules in
    let p : HasPiece (g.S.Source.left c.args.source.now) (g.S.Source.left c.more.new.source) c.next.new.self c.more.new.self = search rules in
    goes_piece g.S.Source.left g.S.Source.faults c.args.source.now c.more.new.source c.args.intake.now c.next.new.self c.more.new.self c.args.rings.now c.args.requests.now.items c.requires.begun none.0 none.1 c.more.ensures.cause.0 p

pub returns-in-End-clause-gone : goal.returns-in-End-clause-gone
returns-in-End-clause-gone g c =
    let none : (c.next.new.self ≡ c.args.intake.now) × HasNoLine c.args.intake.now = search rules in
    let h : HasCome g.S.Source.left c.args.source.now c.more.new.source c.next.new.self c.more.new.self more.End = search rules in
    goes_end g.S.Source.left g.S.Source.faults c.args.source.now c.more.new.source c.args.intake.now c.next.new.self c.more.new.self c.args.rings.now c.args.requests.now.items c.requires.begun none.0 none.1 c.more.ensures.cause.0 h
    c.hand_last.new.rings c.hand_last.new.requests.items c.hand_last.result c.hand_last.ensures.last

pub returns-in-Failed-clause-gone : goal.returns-in-Failed-clause-gone
returns-in-Failed-clause-gone g c =
    let none : (c.next.new.self ≡ c.args.intake.now) × HasNoLine c.args.intake.now = search rules in
    let h : HasCome g.S.Source.left c.args.source.now c.more.new.source c.next.new.self c.more.new.self more.Failed = search rules in
    goes_failed g.S.Source.left g.S.Source.faults c.args.source.now c.more.new.source c.args.intake.now c.next.new.self c.more.new.self c.args.rings.now c.args.requests.now.items c.requires.begun none.0 none.1 c.more.ensures.cause.0 h (search rules)

pub returns-in-TooLong-clause-gone : goal.returns-in-TooLong-clause-gone
returns-in-TooLong-clause-gone g c =
    let none : (c.next.new.self ≡ c.args.intake.now) × HasNoLine c.args.intake.now = search rules in
    let h : HasCome g.S.Source.left c.args.source.now c.more.new.source c.next.new.self c.more.new.self more.TooLong = search rules in
    goes_long g.S.Source.left g.S.Source.faults c.args.source.now c.more.new.source c.args.intake.now c.next.new.self c.more.new.self c.args.rings.now c.args.requests.now.items c.requires.begun none.0 none.1 c.more.ensures.cause.0 h

pub returns-in-Memory-clause-gone : goal.returns-in-Memory-clause-gone
returns-in-Memory-clause-gone g c =
    let none : (c.next.new.self ≡ c.args.intake.now) × HasNoLine c.args.intake.now = search rules in
    let h : HasCome g.S.Source.left c.args.source.now c.more.new.source c.next.new.self c.more.new.self more.Memory = search rules in
    goes_no_memory g.S.Source.left g.S.Source.faults c.args.source.now c.more.new.source c.args.intake.now c.next.new.self c.more.new.self c.args.rings.now c.args.requests.now.items c.requires.begun none.0 none.1 c.more.ensures.cause.0 h

pub returns-then-is_err-clause-gone : goal.returns-then-is_err-clause-gone
returns-then-is_err-clause-gone g c =
    let none : (c.next.new.self ≡ c.args.intake.now) × HasNoLine c.args.intake.now = search rules in
    goes_memory (g.S.Source.left c.args.source.now) (g.S.Source.faults c.args.source.now) c.args.intake.now c.next.new.self c.args.rings.now c.args.requests.now.items c.requires.begun none.0

pub returns-then-is_err-clause-answers : goal.returns-then-is_err-clause-answers
returns-then-is_err-clause-answers g c =
    let n = vec_len c.args.requests.now in
    keeps_reserved c.args.intake.now c.batches.ensures.batches c.args.answers.now n c.requires.answers c.reserve.new.self c.reserve.ensures.items c.reserve.ensures.len c.reserve.ensures.capacity
    c.next.new.self n stop.Memory (omega arith)

pub returns-in-Some-Asks-clause-answers : goal.returns-in-Some-Asks-clause-answers
returns-in-Some-Asks-clause-answers g c =
    let h : HasNext c.args.intake.now c.next.new.self (line.Asks c.in-Some-Asks.request) = search rules in
    keeps_asked c.args.intake.now c.batches.ensures.batches c.args.answers.now (vec_len c.args.requests.now) c.requires.answers c.next.new.self (vec_len c.hand_one.new.requests) c.in-Some-Asks.request _ h c.hand_one.ensures.one

pub returns-in-Some-Fence-clause-answers : goal.returns-in-Some-Fence-clause-answers
returns-in-Some-Fence-clause-answers g c =
    let n = vec_len c.args.requests.now in
    keeps_over c.args.intake.now c.batches.ensures.batches c.args.answers.now n c.requires.answers c.next.new.self n stop.Fence (omega arith)

pub returns-in-Some-Bad-clause-answers : goal.returns-in-Some-Bad-clause-answers
returns-in-Some-Bad-clause-answers g c =
    let n = vec_len c.args.requests.now in
    keeps_over c.args.intake.now c.batches.ensures.batches c.args.answers.now n c.requires.answers c.next.new.self n _ (omega arith)

pub returns-in-Some-Memory-clause-answers : goal.returns-in-Some-Memory-clause-answers
returns-in-Some-Memory-clause-answers g c =
    let n = vec_len c.args.requests.now in
    keeps_over c.args.intake.now c.batches.ensures.batches c.args.answers.now n c.requires.answers c.next.new.self n stop.Memory (omega arith)

pub returns-in-Some-clause-answers : goal.returns-in-Some-clause-answers
returns-in-Some-clause-answers g c =
    let none : (c.next.new.self ≡ c.args.intake.now) × HasNoLine c.args.intake.now = search rules in
    let p : HasPiece (g.S.Source.left c.args.source.now) (g.S.Source.left c.more.new.source) c.next.new.self c.more.new.self = search rules in
    let few : vec_len c.args.requests.now ≤ MOST_ASKED = omega (arith, c.requires.few.0) in
    let room : vec_len c.args.answers.now + (MOST_ASKED + 32769) ≤ vec_capacity c.reserve.new.self = search rules in
    keeps_piece c.args.intake.now c.batches.ensures.batches c.args.answers.now (vec_len c.args.requests.now) c.requires.answers c.reserve.new.self c.reserve.ensures.items c.reserve.ensures.len
    (g.S.Source.left c.args.source.now) (g.S.Source.left c.more.new.source) c.next.new.self c.more.new.self None none.0 none.1 p few room

pub returns-in-End-clause-answers : goal.returns-in-End-clause-answers
returns-in-End-clause-answers g c =
    keeps_reserved c.args.intake.now c.batches.ensures.batches c.args.answers.now (vec_len c.args.requests.now) c.requires.answers c.reserve.new.self c.reserve.ensures.items c.reserve.ensures.len c.reserve.ensures.capacity
    c.more.new.self (vec_len c.hand_last.new.requests) c.hand_last.result c.hand_last.ensures.one

pub returns-in-Failed-clause-answers : goal.returns-in-Failed-clause-answers
returns-in-Failed-clause-answers g c =
    let n = vec_len c.args.requests.now in
    keeps_reserved c.args.intake.now c.batches.ensures.batches c.args.answers.now n c.requires.answers c.reserve.new.self c.reserve.ensures.items c.reserve.ensures.len c.reserve.ensures.capacity
    c.more.new.self n stop.Failed (omega arith)

pub returns-in-TooLong-clause-answers : goal.returns-in-TooLong-clause-answers
returns-in-TooLong-clause-answers g c =
    let n = vec_len c.args.requests.now in
    keeps_reserved c.args.intake.now c.batches.ensures.batches c.args.answers.now n c.requires.answers c.reserve.new.self c.reserve.ensures.items c.reserve.ensures.len c.reserve.ensures.capacity
    c.more.new.self n stop.TooLong (omega arith)

pub returns-in-Memory-clause-answers : goal.returns-in-Memory-clause-answers
returns-in-Memory-clause-answers g c =
    let n = vec_len c.args.requests.now in
    keeps_reserved c.args.intake.now c.batches.ensures.batches c.args.answers.now n c.requires.answers c.reserve.new.self c.reserve.ensures.items c.reserve.ensures.len c.reserve.ensures.capacity
    c.more.new.self n stop.Memory (omega arith)
