-- A standard stream.
use Rattle.std.specs.Prelude.{ℕ}

-- the reader or the writer of a stream, and how many faults there were
pub record StandardState (Device : Type 0) : Type 0 where
  pub device : Device
  pub faults : ℕ
