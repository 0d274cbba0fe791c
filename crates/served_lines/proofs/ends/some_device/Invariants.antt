use Rattle.std.proofs.Common.{◌≡◌, ◌≤◌, drop, length}
use Rattle.std.specs.List.{list_any}
use Rattle.served_lines.proofs.Devices.{tells}
use Rattle.served_lines.proofs.ends.some_device.Given as goal

abbrev pub invariant-loop-place : goal.invariant-loop-place
invariant-loop-place l = record {
  same : list_any tells (drop l.fn.from l.fn.books.members) ≡ list_any tells (drop l.place l.fn.books.members);
  within : l.place ≤ length l.fn.books.members;
  end : l.place-end ≡ length l.fn.books.members;
}
