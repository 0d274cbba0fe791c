-- What squeezing does to a list of prices.
use Rattle.std.specs.Prelude.{◌≡◌, ◌*◌, ◌<◌, ◌≤◌, ℕ, List, length, ℤ, pos, ◌+ℤ◌, ◌-ℤ◌, ◌<ℤ◌, ◌≤ℤ◌, unsigned_abs}
use Rattle.setoff_model.specs.declared.limits.TheConstants.{MOST_WEIGHT}
use Rattle.setoff_model.specs.Setoff.{Obligations, IsLawful, Proves, price_at, total_of, bound_of}
use Rattle.setoff_model.specs.Slackness.{Slack}
use Rattle.setoff_model.specs.Weighted.{AreWeights, ProvesWeighted, weighted_total_of, weighted_bound_of}

-- q is p, where the ordered distinct prices together with 0 are replaced by values whose neighbours differ by 1, and 0 stays.
-- A place past the last has price 0 in both lists, so 0 counts among the prices of each.
pub record IsSqueezed (p q : List ℤ) : Type 0 where
  pub one_each : length q ≡ length p
  pub same : (f g : ℕ) → price_at p f ≡ price_at p g → price_at q f ≡ price_at q g
  pub rising : (f g : ℕ) → price_at p f <ℤ price_at p g → price_at q f <ℤ price_at q g
  pub neighbours : (f g : ℕ) → price_at p f <ℤ price_at p g → ((h : ℕ) → price_at p f <ℤ price_at p h → price_at p h <ℤ price_at p g
      → ⊥) → price_at q g ≡ price_at q f +ℤ pos 1
  pub zero : (f : ℕ) → price_at p f ≡ pos 0 → price_at q f ≡ pos 0

-- each price is within n of 0
abbrev pub IsNear : ℕ → List ℤ → Type 0
IsNear n p = (f : ℕ) → f < length p → unsigned_abs (price_at p f) ≤ n

-- squeezed prices prove what the prices prove, each within n of 0 for n prices
pub record SqueezingKeeps : Type 0 where
  pub slack : (o : Obligations) (d : List ℕ) (p q : List ℤ) → IsSqueezed p q → Slack o d p → Slack o d q
  pub tight : (o : Obligations) (d : List ℕ) (p q : List ℤ) → IsSqueezed p q → IsLawful o d → length p ≡ length o.spends
      → total_of d ≡ bound_of o p → total_of d ≡ bound_of o q
  pub near : (p q : List ℤ) → IsSqueezed p q → IsNear (length p) q
  pub proves : (o : Obligations) (d : List ℕ) (p q : List ℤ) → IsSqueezed p q → IsLawful o d → length p ≡ length o.spends
      → total_of d ≡ bound_of o p → Proves o d q

-- there is one way to squeeze prices
abbrev pub SqueezedIsOne : Type 0
SqueezedIsOne = (p q r : List ℤ) → IsSqueezed p q → IsSqueezed p r → q ≡ r

-- q is p, where the ordered distinct prices together with 0 keep their gaps, or come to differ by `widest` where a gap is wider,
-- and 0 stays. So prices that differ by at most `widest` differ as before, and others by no less than that.
pub record IsSqueezedTo (widest : ℕ) (p q : List ℤ) : Type 0 where
  pub one_each : length q ≡ length p
  pub close : (f g : ℕ) → price_at p f ≤ℤ price_at p g → price_at p g ≤ℤ (price_at p f +ℤ pos widest) →
      (price_at q g -ℤ price_at q f) ≡ (price_at p g -ℤ price_at p f)
  pub wide : (f g : ℕ) → (price_at p f +ℤ pos widest) <ℤ price_at p g → (price_at q f +ℤ pos widest) ≤ℤ price_at q g
  pub next : (f g : ℕ) → (price_at p f +ℤ pos widest) <ℤ price_at p g →
      ((h : ℕ) → price_at p f <ℤ price_at p h → price_at p h <ℤ price_at p g → ⊥) →
      price_at q g ≡ price_at q f +ℤ pos widest
  pub zero : (f : ℕ) → price_at p f ≡ pos 0 → price_at q f ≡ pos 0

-- prices that are squeezed to the largest weight prove what the prices prove
pub record NarrowingKeeps : Type 0 where
  pub tight : (o : Obligations) (weights d : List ℕ) (p q : List ℤ) → AreWeights o weights → IsSqueezedTo MOST_WEIGHT p q →
      IsLawful o d → length p ≡ length o.spends → weighted_total_of weights d ≡ weighted_bound_of o weights p →
      weighted_total_of weights d ≡ weighted_bound_of o weights q
  pub proves : (o : Obligations) (weights d : List ℕ) (p q : List ℤ) → AreWeights o weights →
      IsSqueezedTo MOST_WEIGHT p q → IsNear (MOST_WEIGHT * length p) q → IsLawful o d → length p ≡ length o.spends →
      weighted_total_of weights d ≡ weighted_bound_of o weights p → ProvesWeighted o weights d q
