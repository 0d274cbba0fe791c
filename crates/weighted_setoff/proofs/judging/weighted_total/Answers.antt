use Rattle.std.specs.Prelude.{slice_index}
use Rattle.std.proofs.Common.{◌*◌, arith}
use Rattle.std.proofs.lemmas.Nat.{mul-le}
use Rattle.setoff_model.specs.declared.limits.TheConstants.{MOST_AMOUNT, MOST_WEIGHT}
use Rattle.weighted_setoff.proofs.Judged.{sum_more}
use Rattle.weighted_setoff.proofs.judging.weighted_total.Goals as goal

pub loop-place-preserved : goal.loop-place-preserved
loop-place-preserved c =
    let i = c.loop-place.place in
    let one = mul-le (slice_index c.args.weights.now i) (slice_index c.args.discharges.now i) MOST_WEIGHT MOST_AMOUNT (c.requires.weights i c.loop-place-test.true) (c.requires.discharges i c.loop-place-test.true) in
    record {
      value = sum_more i (λ k. slice_index c.args.weights.now k * slice_index c.args.discharges.now k) _ c.loop-place.invariant.value;
      limit = omega (arith, one, c.loop-place.invariant.limit);
    }
