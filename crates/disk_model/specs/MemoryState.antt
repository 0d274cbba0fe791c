-- What contracts see of a disk in memory.
use Rattle.disk_model.specs.Calls.{Seen}
use Rattle.disk_model.specs.Memory.{MemoryState, first_of, seen_in}
use Rattle.disk_model.specs.declared.memory_disk.MemoryDisk.{MemoryDisk}

abbrev pub memory_state : MemoryDisk → MemoryState
memory_state d = record {
  first = first_of d.first d.bytes.items;
  bytes = d.bytes.items;
  steps = d.steps.items;
  fails = d.fails.items;
  calls = d.calls;
  faults = d.faults;
  refused = d.refused;
}

-- It tells its bytes. There are two moments for each call that was kept.
abbrev pub seen_of : MemoryDisk → Seen
seen_of d = seen_in (memory_state d)
