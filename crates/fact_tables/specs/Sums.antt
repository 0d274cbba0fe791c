-- Sums of amounts by firm, and what firms are owed and owe on claims.
use Rattle.std.specs.Prelude.{◌≡◌, ℕ, length, ◌<◌, ◌^◌, Bool, true, List, map, filter, sum, sum_by, position, All}
use Rattle.std.specs.List.{list_any}
use Rattle.setoff_model.specs.Same.{same_name}
use Rattle.setoff_model.specs.declared.name.Key.{Key}
use Rattle.claim_history.specs.declared.fact.ClaimFact.{ClaimFact}
use Rattle.claim_history.specs.Facts.{at_place}
use Rattle.fact_tables.specs.Tables.{KeysOnce}

-- the firms that have a sum, the sum of each, and how many more firms may get one without taking memory
pub record SumsView : Type 0 where
  pub firms : List (List ℕ)
  pub sums : List ℕ
  pub room : ℕ

-- the sum of a firm; 0 where it has none
abbrev pub sum_of : SumsView → List ℕ → ℕ
sum_of s firm = at_place s.sums (position (same_name firm) s.firms)

-- the firm has a sum
abbrev pub has_sum : SumsView → List ℕ → Bool
has_sum s firm = list_any (same_name firm) s.firms

-- the sum of the parts of the claims on one side of which the firm is
abbrev pub owed_at : (ClaimFact → List ℕ) → List ℕ → List ClaimFact → ℕ
owed_at side firm claims = sum (map (λ c. c.part) (filter (λ c. same_name firm (side c)) claims))

-- each firm on one side of a claim has a sum, and each sum is that of the claims
pub record AreSums (side : ClaimFact → List ℕ) (claims : List ClaimFact) (s : SumsView) : Type 0 where
  pub known : All (λ c. has_sum s (side c) ≡ true) claims
  pub sums : (firm : List ℕ) → sum_of s firm ≡ owed_at side firm claims

-- no key has two rows, and all parts together fit 64 bits
pub record MayStand (claims : List ClaimFact) : Type 0 where
  pub once : KeysOnce claims
  pub small : sum_by (λ c. c.part) claims < 2 ^ 64

-- the claims of the keys of an index, in its order, a mark for each, and what each firm is owed and owes
pub record IsClaimTable (keys : List Key) (claims : List ClaimFact) (marks : List Bool) (to : SumsView) (by : SumsView) : Type 0 where
  pub keys_are : keys ≡ map (λ c. c.key) claims
  pub one_each : length marks ≡ length claims
  pub stand : MayStand claims
  pub owed_to : AreSums (λ c. c.key.creditor) claims to
  pub owed_by : AreSums (λ c. c.debtor) claims by
