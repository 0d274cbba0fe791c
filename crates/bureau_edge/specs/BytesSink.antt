-- A sink in memory, and what a write leaves of it.
use Rattle.std.specs.Prelude.{ℕ, List, ◌++◌, if◌then◌else◌}
use Rattle.fault_count.specs.Counts.{next_count}
use Rattle.bureau_edge.specs.Calls.{is_to_fail}

-- the bytes that it holds, the numbers of the calls that fail, and how many calls, faults and refused growths there were
pub record SinkState : Type 0 where
  pub held : List ℕ
  pub fails : List ℕ
  pub calls : ℕ
  pub faults : ℕ
  pub refused : ℕ

-- after a call that took a piece
abbrev pub after_write : List ℕ → SinkState → SinkState
after_write piece s = record s { held = s.held ++ piece; calls = next_count s.calls }

-- after a call that failed: where it was not to fail, its growth was refused
abbrev pub after_failed_write : SinkState → SinkState
after_failed_write s = record s {
  calls = next_count s.calls;
  faults = next_count s.faults;
  refused = if is_to_fail s.fails s.calls then s.refused else next_count s.refused;
}
