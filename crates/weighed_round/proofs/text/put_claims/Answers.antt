use Rattle.std.proofs.Common.{◌≡◌, ◌∙◌, ◌+◌, ◌<◌, ◌++◌, ℕ, List, length, get_or, drop, ap, sym, append_assoc, arith}
use Rattle.setoff_model.proofs.Columns.{no_claim}
use Rattle.weighed_round.specs.Weighed.{weighed_line, weighed_lines}
use Rattle.weighed_round.proofs.Lines.{lines_from}
use Rattle.weighed_round.proofs.text.put_claims.Goals as goal

pub loop-i-preserved : goal.loop-i-preserved
loop-i-preserved c =
    let fs = c.args.cut.now.parties in
    let cs = c.args.cut.now.claims in
    let ds = c.args.discharges.now in
    let ws = c.args.weights.now in
    let i = c.loop-i.i in
    let among : i < length cs = omega (arith, c.loop-i-test.true, c.requires.discharge_each) in
    let weighs : i < length ws = omega (arith, among, c.requires.weight_each) in
    let line : List ℕ = weighed_line fs (get_or cs i no_claim) (get_or ds i 0) (get_or ws i 0) in
    let rest = weighed_lines fs (drop (i + 1) cs) (drop (i + 1) ds) (drop (i + 1) ws) in
    let written : c.write_weighed_claim.new.buffer.items ≡ c.loop-i.text.items ++ line =
    c.write_weighed_claim.ensures.text no_claim ∙ append_assoc c.reserve.new.self.items _ _ ∙ ap (λ (b : List ℕ). b ++ line) c.in_ok-reserve.ensures.items in
    record {
      text = ap (λ (b : List ℕ). b ++ rest) written ∙ append_assoc c.loop-i.text.items line rest
          ∙ ap (λ (r : List ℕ). c.loop-i.text.items ++ r) (sym (lines_from fs cs ds ws i no_claim among c.loop-i-test.true weighs)) ∙ c.loop-i.invariant.text;
    }
