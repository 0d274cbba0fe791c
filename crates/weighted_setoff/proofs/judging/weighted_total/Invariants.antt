use Rattle.std.proofs.Common.{◌≡◌, ◌≤◌, ◌*◌, slice_index}
use Rattle.setoff_model.specs.Sums.{sum_below}
use Rattle.weighted_setoff.proofs.judging.weighted_total.Given as goal

-- the total of the claims so far, each of which adds at most 9 * 999,999,999,999
abbrev pub invariant-loop-place : goal.invariant-loop-place
invariant-loop-place l = record {
  value : l.total ≡ sum_below l.place (λ c. slice_index l.weights c * slice_index l.discharges c);
  limit : l.total ≤ 8999999999991 * l.place;
}
