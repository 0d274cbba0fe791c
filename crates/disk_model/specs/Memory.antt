-- A disk in memory, and what a call leaves of it.
use Rattle.std.specs.Prelude.{◌≡◌, ◌⊎◌, ◌==◌, ℕ, Bool, true, if◌then◌else◌, List, [], ◌∷◌, ◌++◌, length, take, Option, Some, None, Vec}
use Rattle.std.specs.List.{list_any}
use Rattle.std.specs.declared.alloc.Global.{Global}
use Rattle.disk_model.specs.Calls.{Seen}
use Rattle.fault_count.specs.Counts.{next_count}
use Rattle.disk_model.specs.declared.step.Step.{Step}
use Rattle.disk_model.specs.declared.step.Step.TheVariants.{Waited, Wrote, Synced}
use Rattle.disk_model.specs.Steps.{overlay, images_from}

-- the bytes of the start: those that were kept, or the present ones, where nothing has been written
abbrev pub first_of : Option (Vec ℕ Global) → List ℕ → List ℕ
first_of None bytes = bytes
first_of (Some start) bytes = start.items

-- What contracts see of a disk in memory.
pub record MemoryState : Type 0 where
  -- its bytes at the start, and those that a read gives now
  pub first : List ℕ
  pub bytes : List ℕ
  -- what came about at each moment
  pub steps : List Step
  -- the numbers of the calls that fail
  pub fails : List ℕ
  -- how many calls, faults and refused growths there were, each up to the last u64
  pub calls : ℕ
  pub faults : ℕ
  pub refused : ℕ

-- what contracts see of it: a moment for each step, with what a crash may leave after the first so many
abbrev pub seen_in : MemoryState → Seen
seen_in s = record {
  tells = true;
  reads = s.bytes;
  moment = length s.steps;
  image = λ moment. images_from s.first (take moment s.steps);
  count = s.faults;
}

abbrev pub new_state : List ℕ → List ℕ → ℕ → MemoryState
new_state bytes fails faults = record { first = bytes; bytes = bytes; steps = []; fails = fails; calls = 0; faults = faults; refused = 0 }

-- whether the next call is one of those that fail
abbrev pub is_named : MemoryState → Bool
is_named s = list_any (λ call. call == next_count s.calls) s.fails

-- the end of a call that changes no byte
abbrev pub end_step : Bool → Step
end_step syncs = if syncs then Synced else Waited

-- after a call that changes no byte
abbrev pub after_quiet : Step → MemoryState → MemoryState
after_quiet ended s = record s { steps = s.steps ++ Waited ∷ ended ∷ []; calls = next_count s.calls }

-- after a write that did not fail: it keeps a copy of its piece
abbrev pub after_write : ℕ → Vec ℕ Global → MemoryState → MemoryState
after_write at piece s = record s {
  bytes = overlay at piece.items s.bytes;
  steps = s.steps ++ Wrote at piece ∷ Waited ∷ [];
  calls = next_count s.calls;
}

-- after a call that was named: a fault, and two moments in which nothing comes about
abbrev pub after_named : MemoryState → MemoryState
after_named s = record s {
  steps = s.steps ++ Waited ∷ Waited ∷ [];
  calls = next_count s.calls;
  faults = next_count s.faults;
}

-- after a call for which a growth was refused: a fault, and no moment
abbrev pub after_refused : MemoryState → MemoryState
after_refused s = record s {
  calls = next_count s.calls;
  faults = next_count s.faults;
  refused = next_count s.refused;
}

-- a call failed: it was named, or a growth was refused
abbrev pub HasFailed : MemoryState → MemoryState → Type 0
HasFailed old new = ((is_named old ≡ true) × (new ≡ after_named old)) ⊎ (new ≡ after_refused old)
