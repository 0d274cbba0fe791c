use Rattle.std.proofs.Common.{rules, ◌≡◌, ◌∙◌, ◌+◌, ℕ, List, [], drop, length, arith, sym, ap, subst}
use Rattle.std.specs.Prelude.{Some}
use Rattle.std.specs.Str.Lines.{lines}
use Rattle.input_front.specs.Front.{Says}
use Rattle.input_front.specs.Taken.{HasLast, HasNoFeed, IntakeView}
use Rattle.request_text.specs.text_lines.proofs.Cutting.{some_bytes}
use Rattle.input_front.proofs.Parts.{rest_alone}
use Rattle.input_front.proofs.Reading.{last_says}
use Rattle.input_front.proofs.intake.Intake.last.Goals as goal

pub returns : goal.returns
returns c =
    let i = c.self.inside in
    let v : IntakeView = record { limit = i.limit; taken = i.bytes.items; read = i.read; lines = i.lines; served = i.served; fenced = i.fenced } in
    let view : c.args.self.now ≡ v = search rules in
    let rest : List ℕ = drop i.read i.bytes.items in
    let is : c.split_at.result.1.now ≡ rest = search rules in
    let none : HasNoFeed rest = subst (λ (w : IntakeView). HasNoFeed (drop w.read w.taken)) view c.requires in
    let some : rest ≡ [] → ⊥ = λ gone. absurd (omega (arith, some_bytes (length c.split_at.result.1.now) (sym c.is_empty.ensures ∙ c.if-is_empty.false), ap length (is ∙ gone))) in
    let says : Says (i.lines + 1) rest c.read_alone.result = c.read_alone.ensures rest (ap lines is ∙ rest_alone rest none some) in
    subst (λ (w : IntakeView). HasLast w (Some c.read_alone.result)) (sym view) (last_says v none some c.read_alone.result says)
