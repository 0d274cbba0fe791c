use Rattle.std.proofs.Common.{List, ℕ, ◌++◌, ap, sym, ◌∙◌, arith}
use Rattle.std.proofs.lemmas.Grind.{common_steps}
use Rattle.std.specs.Prelude.{codes}
use Rattle.served_lines.specs.setoff_checker.specs.declared.verdict.Verdict.{Verdict}
use Rattle.printed_text.specs.Texts.{verdict_words}
use Rattle.printed_text.proofs.verdict_text.write_words.Goals as goal

pub returns-in-PriceRange : goal.returns-in-PriceRange
returns-in-PriceRange c = record {
  text =
      let old = c.args.buffer.now.items in
      c.write_named-in-PriceRange.ensures.text
      ∙ ap (λ (name : List ℕ). old ++ (codes "no price-range " ++ name)) c.firm_of-firm-in-PriceRange.ensures
      ∙ ap (λ (v : Verdict). old ++ verdict_words c.args.cut.now v) (sym c.in-PriceRange.is);
  len = grind (arith, common_steps);
  room = grind (arith, common_steps);
}
