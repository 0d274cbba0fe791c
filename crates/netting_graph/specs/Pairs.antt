-- What contracts see of an index of arcs.
use Rattle.std.specs.Prelude.{◌≡◌, ℕ, ◌<◌, List, length, slice_index}

-- the debtors and the creditors of the arcs, by places
pub record Pairs : Type 0 where
  pub debtors : List ℕ
  pub creditors : List ℕ

-- at place a stand this debtor and this creditor
pub record IsPairAt (pairs : Pairs) (debtor creditor a : ℕ) : Type 0 where
  pub within : a < length pairs.debtors
  pub debtor_is : slice_index pairs.debtors a ≡ debtor
  pub creditor_is : slice_index pairs.creditors a ≡ creditor
