-- What is seen of an index.
use Rattle.std.specs.Prelude.{ℕ, List}
use Rattle.setoff_model.specs.declared.name.Key.{Key}

-- the names in the order in which they were added, and how many may be added without taking memory
pub record NamesView : Type 0 where
  pub names : List (List ℕ)
  pub room : ℕ

-- the keys in the order in which they were added, and how many may be added without taking memory
pub record KeysView : Type 0 where
  pub keys : List Key
  pub room : ℕ
