-- A sink and a disk that were shown at the same moment.
use Rattle.std.specs.Prelude.{ℕ, List, Option}

-- what the sink had taken, where it tells its bytes, and the disk as it was
pub record Shown (D : Type 0) : Type 0 where
  pub held : Option (List ℕ)
  pub disk : D
