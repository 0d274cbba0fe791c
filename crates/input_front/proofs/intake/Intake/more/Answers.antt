use Rattle.std.proofs.Common.{rules, ◌≡◌, ◌∙◌, ◌+◌, ◌-◌, ◌≤◌, ℕ, List, ◌++◌, length, take, ap, subst, arith, length-append}
use Rattle.input_front.specs.Taken.{HasPiece, IntakeView}
use Rattle.input_front.proofs.Reading.{keeps_read}
use Rattle.input_front.proofs.intake.Intake.more.Goals as goal

pub returns-in-Ok-clause-taken : goal.returns-in-Ok-clause-taken
returns-in-Ok-clause-taken g c =
    let i = c.self.inside in
    let v : IntakeView = record { limit = i.limit; taken = i.bytes.items; read = i.read; lines = i.lines; served = i.served; fenced = i.fenced } in
    let view : v ≡ c.args.self.now = c.self.view_is in
    let piece : List ℕ = take c.in-Ok.count c.read.new.into in
    let taken : List ℕ = c.put.new.buffer.items in
    let more : taken ≡ i.bytes.items ++ piece = c.put.ensures.text ∙ ap (λ (l : List ℕ). l ++ piece) c.reserve.ensures.items in
    let bound : c.in-Ok.count ≤ length c.read.new.into = c.in-Ok.ensures.bound.0 in
    let count : c.in-Ok.count ≡ length piece = c.in-Ok.ensures.bound.1 in
    let asked : length c.read.new.into ≤ c.min.result + 1 = search rules in
    let some : 1 ≤ length piece = search rules in
    let least : c.min.result ≤ i.limit - length i.bytes.items = search rules in
    let small : c.min.result ≤ 32767 = search rules in
    let few : length piece ≤ 32768 = omega (arith, bound, count, asked, small) in
    let fits : length i.bytes.items ≤ i.limit = search rules in
    let within : length taken ≤ i.limit + 1 = omega (arith, ap length more, length-append i.bytes.items piece, bound, count, asked, least, fits) in
    let read_in : i.read ≤ length i.bytes.items = omega (arith, c.self.invariant.behind, c.self.invariant.within) in
    let new : IntakeView = record v { taken = taken } in
    subst (λ (w : IntakeView). HasPiece (g.S.Source.left c.args.source.now) (g.S.Source.left c.read.new.self) w new) view (record {
      piece = piece;
      same = ap (λ (t : List ℕ). record v { taken = t }) more;
      consumed = c.in-Ok.ensures.bytes.0;
      some = some;
      few = few;
      within = within;
      reads = keeps_read v piece taken read_in more;
    })
