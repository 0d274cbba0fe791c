use Rattle.std.proofs.Common.{◌≤◌, ◌-◌, ◌+◌, vec_len}
use Rattle.std.specs.Io.KnownBytes.{Consumes}
use Rattle.bureau_edge.proofs.whole.read_whole.Given as goal

abbrev pub invariant-loop-bytes : goal.invariant-loop-bytes
invariant-loop-bytes g l = record {
  taken : Consumes (g.S.Source.left l.fn.source) (g.S.Source.left l.source) l.bytes.items;
  within : vec_len l.bytes ≤ l.limit;
  later : g.S.Source.faults l.fn.source ≤ g.S.Source.faults l.source;
}

abbrev pub decreases-loop-bytes : goal.decreases-loop-bytes
decreases-loop-bytes g l = l.limit + 1 - vec_len l.bytes
