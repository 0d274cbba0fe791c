-- Lanes, and the line between batches.
use Rattle.std.specs.Prelude.{ℕ, ◌≤◌, List, ◌++◌, codes}
use Rattle.setoff_model.specs.declared.limits.TheConstants.{MOST_LANES}

-- they have the numbers from 1 on
abbrev pub IsLane : ℕ → Type 0
IsLane lane = (1 ≤ lane) × (lane ≤ MOST_LANES)

-- the line that ends a batch, and the same with its end
abbrev pub fence : List ℕ
fence = codes "FENCE"

abbrev pub fence_line : List ℕ
fence_line = fence ++ codes "\n"
