use Rattle.std.proofs.Common.{◌≡◌, ℕ, List, ◌++◌, ap, sym, ◌∙◌, append_assoc, FitsSigned, arith}
use Rattle.std.proofs.lemmas.Grind.{common_steps}
use mir.Syntax.{w128}
use Rattle.std.specs.Prelude.{codes, unsigned_abs}
use Rattle.std.proofs.lemmas.Int.{to_z-of_z}
use Rattle.setoff_model.specs.Texts.{cents_text}
use Rattle.printed_text.proofs.verdict_text.write_not_proved.Goals as goal

-- two texts, one after the other
regroup : (a t b u w x n : List ℕ) → n ≡ x ++ (b ++ w) → x ≡ a ++ t → w ≡ u → n ≡ a ++ (t ++ b ++ u)
regroup a t b u w x n p q r =
    p ∙ ap (λ (y : List ℕ). y ++ (b ++ w)) q ∙ ap (λ (y : List ℕ). (a ++ t) ++ (b ++ y)) r
    ∙ append_assoc a t (b ++ u) ∙ ap (λ (y : List ℕ). a ++ y) (sym (append_assoc t b u))

pub returns : goal.returns
returns c = record {
  text =
      let fits : FitsSigned w128 c.args.bound = c.ranges.bound in
      let size : c.unsigned_abs.result ≡ unsigned_abs c.args.bound = simp to_z-of_z at c.unsigned_abs.ensures.value in
      regroup c.args.buffer.now.items (codes "no not-proved " ++ cents_text c.args.total) (codes " ") (cents_text (unsigned_abs c.args.bound)) (cents_text c.unsigned_abs.result) c.write_named_cents.new.buffer.items c.write_named_cents-2.new.buffer.items
      c.write_named_cents-2.ensures.text (c.write_named_cents.ensures.text ∙ ap (λ (n : ℕ). c.args.buffer.now.items ++ (codes "no not-proved " ++ cents_text n)) c.from.ensures) (ap cents_text size);
  len = grind (arith, common_steps);
  room = grind (arith, common_steps);
}
