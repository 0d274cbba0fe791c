use Rattle.std.proofs.Common.{◌≡◌, ◌++◌, drop}
use Rattle.weighed_round.specs.Weighed.{weighed_lines}
use Rattle.weighed_round.proofs.text.put_claims.Given as goal

abbrev pub invariant-loop-i : goal.invariant-loop-i
invariant-loop-i l = record {
  text : l.text.items ++ weighed_lines l.cut.parties (drop l.i l.cut.claims) (drop l.i l.discharges) (drop l.i l.weights) ≡ l.fn.text.items ++ weighed_lines l.cut.parties l.cut.claims l.discharges l.weights;
}
