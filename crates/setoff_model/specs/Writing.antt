-- What a writer leaves of the buffer that it wrote to.
use Rattle.std.specs.Prelude.{◌≡◌, ◌+◌, ◌≤◌, ℕ, List, ◌++◌, Vec, vec_len, vec_capacity}
use Rattle.std.specs.declared.alloc.Global.{Global}

-- a text stands behind what was in the buffer, with at most so many bytes, and the buffer has no less room
pub record Writes (old new : Vec ℕ Global) (written : List ℕ) (most : ℕ) : Type 0 where
  pub text : new.items ≡ old.items ++ written
  pub len : vec_len new ≤ vec_len old + most
  pub room : vec_capacity old ≤ vec_capacity new
