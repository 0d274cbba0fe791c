-- A source in memory, and what a read leaves of it.
use Rattle.std.specs.Prelude.{ℕ, List, drop}
use Rattle.fault_count.specs.Counts.{next_count}

-- the bytes that are left, the numbers of the calls that fail, and how many calls and faults there were
pub record SourceState : Type 0 where
  pub left : List ℕ
  pub fails : List ℕ
  pub calls : ℕ
  pub faults : ℕ

-- after a call that took so many bytes
abbrev pub after_read : ℕ → SourceState → SourceState
after_read count s = record s { left = drop count s.left; calls = next_count s.calls }

-- after a call that failed
abbrev pub after_failed_read : SourceState → SourceState
after_failed_read s = record s { calls = next_count s.calls; faults = next_count s.faults }
