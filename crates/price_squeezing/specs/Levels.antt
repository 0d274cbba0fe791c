-- The levels of prices.
use Rattle.std.specs.Prelude.{◌≡◌, ◌⊎◌, ◌<◌, ◌≤◌, ◌+◌, ℕ, List, length, ℤ, pos, ◌-ℤ◌, ◌<ℤ◌, ◌≤ℤ◌, Contains}
use Rattle.setoff_model.specs.Setoff.{price_at}

-- each is above those before it
abbrev pub IsRising : List ℤ → Type 0
IsRising s = (i j : ℕ) → i < j → j < length s → price_at s i <ℤ price_at s j

-- s has just the prices of p and 0, each once, in ascending order
pub record IsLevels (p s : List ℤ) : Type 0 where
  pub few : length s ≤ length p + 1
  pub rising : IsRising s
  pub has : (f : ℕ) → Contains s (price_at p f)
  pub only : (k : ℕ) → k < length s → (f : ℕ) × (price_at p f ≡ price_at s k)

-- the step is the gap, or `widest` where the gap is wider
abbrev pub IsStep : ℕ → ℤ → ℤ → Type 0
IsStep widest gap step = ((gap ≤ℤ pos widest) × (step ≡ gap)) ⊎ ((pos widest <ℤ gap) × (step ≡ pos widest))

-- the numbers of the first m levels: the first has 0, and each is above the one before by the step of their gap
pub record AreNumbered (widest : ℕ) (s t : List ℤ) (m : ℕ) : Type 0 where
  pub one_each : length t ≡ m
  pub first : 0 < m → price_at t 0 ≡ pos 0
  pub steps : (k : ℕ) → k + 1 < m →
      IsStep widest (price_at s (k + 1) -ℤ price_at s k) (price_at t (k + 1) -ℤ price_at t k)
