use Rattle.std.proofs.Common.{rules, ◌≡◌, ◌+◌, ◌-◌, false, true, take, drop, refl, sym, subst}
use Rattle.input_front.specs.Taken.{HasAsked, HasFenced, HasNoFeed, HasNoLine, IntakeView, IsEnded, IsFirstBad, StaysBad}
use Rattle.input_front.proofs.Keeping.{kept_sought, next_asked, next_bad, next_fence, nothing_left}
use Rattle.input_front.proofs.Reading.{front_read}
use Rattle.input_front.proofs.intake.Intake.next.Goals as goal

pub invariant_of-self : goal.invariant_of-self
invariant_of-self c =
    let i = c.self.inside in
    let v : IntakeView = record { limit = i.limit; taken = i.bytes.items; read = i.read; lines = i.lines; served = i.served; fenced = i.fenced } in
    let none : HasNoFeed (drop i.sought v.taken) = search rules in
    kept_sought v i.sought c.self.invariant c.len-self-inside.result (search rules) none

pub returns-in_default-clause-none : goal.returns-in_default-clause-none
returns-in_default-clause-none c =
    let i = c.self.inside in
    let v : IntakeView = record { limit = i.limit; taken = i.bytes.items; read = i.read; lines = i.lines; served = i.served; fenced = i.fenced } in
    let view : c.args.self.now ≡ v = search rules in
    let none : HasNoFeed (drop i.sought v.taken) = search rules in
    (sym view, subst HasNoLine (sym view) (nothing_left v i.sought c.self.invariant none))

pub invariant_of-self-in-Asks : goal.invariant_of-self-in-Asks
invariant_of-self-in-Asks c =
    let i = c.self.inside in
    let v : IntakeView = record { limit = i.limit; taken = i.bytes.items; read = i.read; lines = i.lines; served = i.served; fenced = i.fenced } in
    let begun : v.fenced ≡ false = search rules in
    let at = c.in-Some.at in
    let e : IsEnded (drop i.sought v.taken) at = search rules in
    let text : c.split_at-3.result.0.now ≡ take (i.sought + at - i.read) (drop i.read v.taken) = search rules in
    (next_asked v i.sought c.self.invariant begun at e c.split_at-3.result.0.now c.read_alone.result text c.read_alone.ensures c.in-Asks.request c.in-Asks.is).1

pub invariant_of-self-in-Fence : goal.invariant_of-self-in-Fence
invariant_of-self-in-Fence c =
    let i = c.self.inside in
    let v : IntakeView = record { limit = i.limit; taken = i.bytes.items; read = i.read; lines = i.lines; served = i.served; fenced = i.fenced } in
    let begun : v.fenced ≡ false = search rules in
    let at = c.in-Some.at in
    let e : IsEnded (drop i.sought v.taken) at = search rules in
    let text : c.split_at-3.result.0.now ≡ take (i.sought + at - i.read) (drop i.read v.taken) = search rules in
    (next_fence v i.sought c.self.invariant begun at e c.split_at-3.result.0.now c.read_alone.result text c.read_alone.ensures c.in-Fence.is).1

pub returns-in-Asks-clause-some : goal.returns-in-Asks-clause-some
returns-in-Asks-clause-some c =
    let i = c.self.inside in
    let v : IntakeView = record { limit = i.limit; taken = i.bytes.items; read = i.read; lines = i.lines; served = i.served; fenced = i.fenced } in
    let view : c.args.self.now ≡ v = search rules in
    let begun : v.fenced ≡ false = search rules in
    let at = c.in-Some.at in
    let e : IsEnded (drop i.sought v.taken) at = search rules in
    let text : c.split_at-3.result.0.now ≡ take (i.sought + at - i.read) (drop i.read v.taken) = search rules in
    let new : IntakeView = record v { read = i.sought + at; lines = i.lines + 1 } in
    subst (λ (old : IntakeView). HasAsked old new c.in-Asks.request) (sym view) (next_asked v i.sought c.self.invariant begun at e c.split_at-3.result.0.now c.read_alone.result text c.read_alone.ensures c.in-Asks.request c.in-Asks.is).0

pub returns-in-Fence-clause-some : goal.returns-in-Fence-clause-some
returns-in-Fence-clause-some c =
    let i = c.self.inside in
    let v : IntakeView = record { limit = i.limit; taken = i.bytes.items; read = i.read; lines = i.lines; served = i.served; fenced = i.fenced } in
    let view : c.args.self.now ≡ v = search rules in
    let begun : v.fenced ≡ false = search rules in
    let at = c.in-Some.at in
    let e : IsEnded (drop i.sought v.taken) at = search rules in
    let text : c.split_at-3.result.0.now ≡ take (i.sought + at - i.read) (drop i.read v.taken) = search rules in
    let new : IntakeView = record v { read = i.sought + at; lines = i.lines + 1; fenced = true } in
    subst (λ (old : IntakeView). HasFenced old new) (sym view) (next_fence v i.sought c.self.invariant begun at e c.split_at-3.result.0.now c.read_alone.result text c.read_alone.ensures c.in-Fence.is).0

pub returns-in-Bad-clause-some : goal.returns-in-Bad-clause-some
returns-in-Bad-clause-some c =
    let i = c.self.inside in
    let v : IntakeView = record { limit = i.limit; taken = i.bytes.items; read = i.read; lines = i.lines; served = i.served; fenced = i.fenced } in
    let view : c.args.self.now ≡ v = search rules in
    let begun : v.fenced ≡ false = search rules in
    let at = c.in-Some.at in
    let e : IsEnded (drop i.sought v.taken) at = search rules in
    let text : c.split_at-3.result.0.now ≡ take (i.sought + at - i.read) (drop i.read v.taken) = search rules in
    let bad = subst (λ (old : IntakeView). IsFirstBad old c.in-Bad.line c.in-Bad.cause × StaysBad old c.in-Bad.line c.in-Bad.cause) (sym view)
    (next_bad v i.sought c.self.invariant begun at e c.split_at-3.result.0.now c.read_alone.result text c.read_alone.ensures c.in-Bad.line c.in-Bad.cause c.in-Bad.is) in
    (refl, bad.0, bad.1)

pub returns-in-Memory-clause-some : goal.returns-in-Memory-clause-some
returns-in-Memory-clause-some c = (refl, front_read c.args.self.now)
