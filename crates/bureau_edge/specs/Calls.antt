-- Which calls of a device in memory are to fail.
use Rattle.std.specs.Prelude.{ℕ, ◌==◌, Bool, List}
use Rattle.std.specs.List.{list_any}
use Rattle.fault_count.specs.Counts.{next_count}

-- whether the next call, after so many, is one of those that are to fail
abbrev pub is_to_fail : List ℕ → ℕ → Bool
is_to_fail fails calls = list_any (λ call. call == next_count calls) fails
