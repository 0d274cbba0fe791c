-- The flow of a party, summed claim by claim.
use Rattle.std.specs.Prelude.{map, slice_index, if◌then◌else◌, ◌==◌}
use Rattle.std.proofs.Common.{◌≡◌, ℕ, ◌+◌, ◌<◌, ◌≤◌, List, length, get_or, sum, sym, ◌∙◌, ap, add-one, arith}
use Rattle.std.proofs.lemmas.List.Sums.{sum_by-take-le}
use Rattle.setoff_model.specs.declared.limits.TheConstants.{SUM_LIMIT}
use Rattle.setoff_model.specs.declared.cut.CutClaim.{CutClaim}
use Rattle.setoff_model.specs.Setoff.{flow_at, total_of}
use Rattle.setoff_model.proofs.Flows.{column, flow_at-le}

-- what the next claim adds
pub flow_step : (side : CutClaim → ℕ) (claims : List CutClaim) (d : List ℕ) (i f sum : ℕ) (x : CutClaim) (y : ℕ) → i < length claims → x ≡ get_or claims i x → sum ≡ flow_at i (map side claims) d f → y ≡ (if side x == f then slice_index d i else 0)
    → sum + y ≡ flow_at (i + 1) (map side claims) d f
flow_step side claims d i f sum x y lt is so_far next =
    let here : y ≡ (if slice_index (map side claims) i == f then slice_index d i else 0) = next ∙ ap (λ (n : ℕ). if n == f then slice_index d i else 0) (sym (column side claims i x is lt)) in
    rw add-one (omega (arith, so_far, here))

pub flow_small : (side : CutClaim → ℕ) (claims : List CutClaim) (d : List ℕ) (i f sum : ℕ) → length d ≡ length claims → total_of d < SUM_LIMIT → i ≤ length claims → sum ≡ flow_at i (map side claims) d f → sum < SUM_LIMIT
flow_small side claims d i f sum long small le so_far =
    omega (arith, so_far, small, flow_at-le i (map side claims) d f (omega (arith, long, le)), sum_by-take-le (λ n. n) d i)
