-- How large the weighted sums of a well-formed cut can be.
use Rattle.std.specs.Prelude.{slice_index, unsigned_abs, ℤ, pos, negsuc, ◌+ℤ◌, ◌-ℤ◌}
use Rattle.std.proofs.Common.{ℕ, suc, ◌*◌, ◌^◌, ◌<◌, ◌≤◌, List, length, arith}
use Rattle.std.proofs.lemmas.Int.{ints}
use Rattle.std.proofs.lemmas.Nat.{mul-le}
use Rattle.setoff_model.specs.declared.limits.TheConstants.{MOST_FIRMS, MOST_AMOUNT, MOST_WINDOW, MOST_WEIGHT}
use Rattle.setoff_model.specs.Sums.{above_zero}
use Rattle.setoff_model.specs.Setoff.{IsLawful, price_at, window_worth, parties_bound}
use Rattle.setoff_model.specs.CutView.{CutView, WellFormed, obligations, amounts, debtors, creditors, spends, rooms}
use Rattle.setoff_model.specs.Weighted.{AreWeights, WeightedInRange, WeightedSumsAreBounded, weighted_total_of, weighted_gain, weighted_claims_bound, weighted_bound_of}
use Rattle.setoff_model.proofs.Sizes.{abs_parts}
use Rattle.setoff_model.proofs.Columns.{claims_long, parties_long, amount_small, discharge_small, debtor_in, creditor_in, spend_small, room_small}
use Rattle.setoff_model.proofs.SumsBounded.{sum_below-most, above_zero_is}

total_small : (cut : CutView) (weights d : List ℕ) → WellFormed cut → AreWeights (obligations cut) weights → IsLawful (obligations cut) d → weighted_total_of weights d < 2 ^ 62
total_small cut weights d formed are lawful =
    let each : (c : ℕ) → c < length d → slice_index weights c * slice_index d c ≤ MOST_WEIGHT * MOST_AMOUNT =
    λ c lt.
    let in' : c < length (amounts cut.claims) = omega (arith, lawful.one_each, lt) in
    mul-le _ _ MOST_WEIGHT MOST_AMOUNT (are.limit c in') (discharge_small cut d c formed lawful (omega (arith, claims_long cut, in'))) in
    omega (arith, sum_below-most (length d) (MOST_WEIGHT * MOST_AMOUNT) _ each, formed.few_claims, claims_long cut, lawful.one_each)

gain_small : (w : ℕ) (a b : ℤ) → w ≤ MOST_WEIGHT → unsigned_abs a ≤ MOST_WEIGHT * MOST_FIRMS → unsigned_abs b ≤ MOST_WEIGHT * MOST_FIRMS → above_zero ((pos w +ℤ a) -ℤ b) ≤ 294921
gain_small w a b le le_a le_b = omega (arith, ints, above_zero_is ((pos w +ℤ a) -ℤ b), abs_parts a, abs_parts b)

module _ (cut : CutView) (p : List ℤ) (formed : WellFormed cut) (range : WeightedInRange cut p) where
  pub price_small : (f : ℕ) → f < length cut.parties → unsigned_abs (price_at p f) ≤ MOST_WEIGHT * MOST_FIRMS
  price_small f in' = omega (arith, range f (omega (arith, parties_long cut, in')), parties_long cut, formed.few_parties)

  claims_small : (weights : List ℕ) (m : ℕ) → AreWeights (obligations cut) weights → m ≤ length cut.claims → weighted_claims_bound m (obligations cut) weights p < 2 ^ 77
  claims_small weights m are le =
      let each : (i : ℕ) → i < m → slice_index (amounts cut.claims) i * above_zero (weighted_gain (obligations cut) weights p i) ≤ MOST_AMOUNT * 294921 =
      λ i lt.
      let in' : i < length cut.claims = omega arith in
      mul-le _ _ MOST_AMOUNT 294921 (amount_small cut i formed in') (gain_small (slice_index weights i) (price_at p (slice_index (debtors cut.claims) i)) (price_at p (slice_index (creditors cut.claims) i)) (are.limit i (omega (arith, claims_long cut))) (price_small _ (debtor_in cut i formed in')) (price_small _ (creditor_in cut i formed in'))) in
      omega (arith, sum_below-most m (MOST_AMOUNT * 294921) _ each, formed.few_claims)

  worth_small : (z : ℤ) (s r : ℕ) → unsigned_abs z ≤ MOST_WEIGHT * MOST_FIRMS → s ≤ MOST_WINDOW → r ≤ MOST_WINDOW → window_worth z s r ≤ (MOST_WEIGHT * MOST_FIRMS) * MOST_WINDOW
  worth_small (pos n) s r le spend room = mul-le n r (MOST_WEIGHT * MOST_FIRMS) MOST_WINDOW (omega arith) room
  worth_small (negsuc n) s r le spend room = mul-le (suc n) s (MOST_WEIGHT * MOST_FIRMS) MOST_WINDOW (omega arith) spend

  parties_small : (n : ℕ) → n ≤ length cut.parties → parties_bound n (spends cut.parties) (rooms cut.parties) p < 2 ^ 83
  parties_small n le =
      let each : (f : ℕ) → f < n → window_worth (price_at p f) (slice_index (spends cut.parties) f) (slice_index (rooms cut.parties) f) ≤ (MOST_WEIGHT * MOST_FIRMS) * MOST_WINDOW =
      λ f lt.
      let in' : f < length cut.parties = omega arith in
      worth_small (price_at p f) _ _ (price_small f in') (spend_small cut f formed in') (room_small cut f formed in') in
      omega (arith, sum_below-most n ((MOST_WEIGHT * MOST_FIRMS) * MOST_WINDOW) _ each, formed.few_parties)

  bound_small : (weights : List ℕ) → AreWeights (obligations cut) weights → weighted_bound_of (obligations cut) weights p < 2 ^ 84
  bound_small weights are =
      let claims = claims_small weights (length (amounts cut.claims)) are (omega (arith, claims_long cut)) in
      let parties = parties_small (length (spends cut.parties)) (omega (arith, parties_long cut)) in
      omega (arith, claims, parties)

pub weighted_sums_are_bounded : WeightedSumsAreBounded
weighted_sums_are_bounded = record {
  total = total_small;
  claims = λ cut weights p m formed are range le. claims_small cut p formed range weights m are le;
  parties = λ cut p n formed range le. parties_small cut p formed range n le;
  bound = λ cut weights p formed are range. bound_small cut p formed range weights are;
}
