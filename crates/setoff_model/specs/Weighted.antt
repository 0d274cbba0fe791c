-- A set-off where a cent of one claim counts more than a cent of another, which one is greatest, and how prices prove it.
use Rattle.std.specs.Prelude.{◌≡◌, ◌↔◌, ℕ, ◌+◌, ◌*◌, ◌<◌, ◌≤◌, ◌^◌, List, length, slice_index, ℤ, pos, ◌+ℤ◌, ◌-ℤ◌, ◌<ℤ◌, unsigned_abs}
use Rattle.setoff_model.specs.declared.limits.TheConstants.{MOST_WEIGHT}
use Rattle.setoff_model.specs.Sums.{sum_below, above_zero}
use Rattle.setoff_model.specs.Setoff.{Obligations, inflow, outflow, IsLawful, IsGreatest, InRange}
use Rattle.setoff_model.specs.Setoff.{Proves, price_at, parties_bound, total_of, bound_of}
use Rattle.setoff_model.specs.CutView.{CutView, WellFormed, obligations, spends, rooms}

-- one weight for each claim, from 1 to 9
pub record AreWeights (o : Obligations) (weights : List ℕ) : Type 0 where
  pub one_each : length weights ≡ length o.amounts
  pub some : (c : ℕ) → c < length o.amounts → 1 ≤ slice_index weights c
  pub limit : (c : ℕ) → c < length o.amounts → slice_index weights c ≤ MOST_WEIGHT

-- the sum of weight * discharge
abbrev pub weighted_total_of : List ℕ → List ℕ → ℕ
weighted_total_of weights d = sum_below (length d) (λ c. slice_index weights c * slice_index d c)

-- weight + price of the debtor - price of the creditor
abbrev pub weighted_gain : Obligations → List ℕ → List ℤ → ℕ → ℤ
weighted_gain o weights p c =
    (pos (slice_index weights c) +ℤ price_at p (slice_index o.debtors c)) -ℤ price_at p (slice_index o.creditors c)

-- the sum of amount * max(0, gain) over the first m claims
abbrev pub weighted_claims_bound : ℕ → Obligations → List ℕ → List ℤ → ℕ
weighted_claims_bound m o weights p =
    sum_below m (λ c. slice_index o.amounts c * above_zero (weighted_gain o weights p c))

-- the bound of a price list: no lawful weighted total is above it
abbrev pub weighted_bound_of : Obligations → List ℕ → List ℤ → ℕ
weighted_bound_of o weights p =
    weighted_claims_bound (length o.amounts) o weights p + parties_bound (length o.spends) o.spends o.rooms p

-- no lawful set-off has a greater weighted total
pub record IsWeightedGreatest (o : Obligations) (weights d : List ℕ) : Type 0 where
  pub lawful : IsLawful o d
  pub most : (e : List ℕ) → IsLawful o e → weighted_total_of weights e ≤ weighted_total_of weights d

-- the price of the party at place f is from -9n to 9n for n parties
abbrev pub InWeightedRange : Obligations → List ℤ → ℕ → Type 0
InWeightedRange o p f = unsigned_abs (price_at p f) ≤ MOST_WEIGHT * length o.spends

-- the prices show that the discharges are greatest by these weights
pub record ProvesWeighted (o : Obligations) (weights d : List ℕ) (p : List ℤ) : Type 0 where
  pub lawful : IsLawful o d
  pub price_each : length p ≡ length o.spends
  pub in_range : (f : ℕ) → f < length o.spends → InWeightedRange o p f
  pub tight : weighted_total_of weights d ≡ weighted_bound_of o weights p

-- weak duality: every lawful weighted total is at most every bound, and so a proved set-off is greatest
pub record WeightedDuality : Type 0 where
  pub lawful_at_most_bound : (o : Obligations) (weights d : List ℕ) (p : List ℤ) → IsLawful o d →
      length p ≡ length o.spends → weighted_total_of weights d ≤ weighted_bound_of o weights p
  pub proved_is_greatest : (o : Obligations) (weights d : List ℕ) (p : List ℤ) → ProvesWeighted o weights d p →
      IsWeightedGreatest o weights d

-- a claim with gain above 0 is discharged whole, and one with gain below 0 not at all;
-- a party with price above 0 has used its room, and one with price below 0 its spend
pub record WeightedSlack (o : Obligations) (weights d : List ℕ) (p : List ℤ) : Type 0 where
  pub full : (c : ℕ) → c < length o.amounts → pos 0 <ℤ weighted_gain o weights p c →
      slice_index d c ≡ slice_index o.amounts c
  pub empty : (c : ℕ) → c < length o.amounts → weighted_gain o weights p c <ℤ pos 0 → slice_index d c ≡ 0
  pub at_room : (f : ℕ) → f < length o.spends → pos 0 <ℤ price_at p f → inflow o d f ≡ outflow o d f + slice_index o.rooms f
  pub at_spend : (f : ℕ) → f < length o.spends → price_at p f <ℤ pos 0 → outflow o d f ≡ inflow o d f + slice_index o.spends f

-- the weighted total of a lawful set-off is the bound of prices exactly where these facts hold
pub record WeightedSlackness : Type 0 where
  pub tight : (o : Obligations) (weights d : List ℕ) (p : List ℤ) → IsLawful o d → length p ≡ length o.spends →
      WeightedSlack o weights d p → weighted_total_of weights d ≡ weighted_bound_of o weights p
  pub slack : (o : Obligations) (weights d : List ℕ) (p : List ℤ) → IsLawful o d → length p ≡ length o.spends →
      weighted_total_of weights d ≡ weighted_bound_of o weights p → WeightedSlack o weights d p

-- each price is from -9n to 9n for n parties
abbrev pub WeightedInRange : CutView → List ℤ → Type 0
WeightedInRange cut p = (f : ℕ) → f < length (obligations cut).spends → InWeightedRange (obligations cut) p f

-- no sum of a well-formed cut reaches 2^84, whole or of its first members
pub record WeightedSumsAreBounded : Type 0 where
  pub total : (cut : CutView) (weights d : List ℕ) → WellFormed cut → AreWeights (obligations cut) weights →
      IsLawful (obligations cut) d → weighted_total_of weights d < 2 ^ 62
  pub claims : (cut : CutView) (weights : List ℕ) (p : List ℤ) (m : ℕ) → WellFormed cut →
      AreWeights (obligations cut) weights → WeightedInRange cut p → m ≤ length cut.claims →
      weighted_claims_bound m (obligations cut) weights p < 2 ^ 77
  pub parties : (cut : CutView) (p : List ℤ) (n : ℕ) → WellFormed cut → WeightedInRange cut p → n ≤ length cut.parties →
      parties_bound n (spends cut.parties) (rooms cut.parties) p < 2 ^ 83
  pub bound : (cut : CutView) (weights : List ℕ) (p : List ℤ) → WellFormed cut → AreWeights (obligations cut) weights →
      WeightedInRange cut p → weighted_bound_of (obligations cut) weights p < 2 ^ 84

-- a weight of 1 for each claim
pub record AreOnes (o : Obligations) (weights : List ℕ) : Type 0 where
  pub one_each : length weights ≡ length o.amounts
  pub one : (c : ℕ) → c < length o.amounts → slice_index weights c ≡ 1

-- where each weight is 1, totals, bounds and greatest set-offs are those of claims without weights, and so are the proofs, but
-- that their prices are from -n to n
pub record WeightsOfOne : Type 0 where
  pub total : (o : Obligations) (weights d : List ℕ) → AreOnes o weights → length d ≡ length o.amounts →
      weighted_total_of weights d ≡ total_of d
  pub bound : (o : Obligations) (weights : List ℕ) (p : List ℤ) → AreOnes o weights → weighted_bound_of o weights p ≡ bound_of o p
  pub greatest : (o : Obligations) (weights d : List ℕ) → AreOnes o weights → IsWeightedGreatest o weights d ↔ IsGreatest o d
  pub proofs : (o : Obligations) (weights d : List ℕ) (p : List ℤ) → AreOnes o weights →
      Proves o d p ↔ (ProvesWeighted o weights d p × ((f : ℕ) → f < length o.spends → InRange o p f))
