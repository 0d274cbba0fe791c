use Rattle.std.proofs.Common.{◌≡◌, ◌≤◌, drop, length, take, vec_capacity}
use Rattle.setoff_model.specs.declared.limits.TheConstants.{OUTPUT_BYTES}
use Rattle.served_lines.specs.claim_history.specs.PoolRounds.{cuts_after}
use Rattle.printed_text.specs.Printing.{added_text}
use Rattle.printed_text.proofs.Passing.{GoesThroughUpTo}
use Rattle.printed_text.proofs.output.print_members.Given as goal

abbrev pub invariant-loop-place : goal.invariant-loop-place
invariant-loop-place g l = record {
  passes : GoesThroughUpTo (g.K.Sink.held l.fn.sink) (g.K.Sink.held l.sink) l.fn.buffer.items l.buffer.items (added_text (take l.place l.books.members) (drop l.place l.books.members)) (added_text (take l.from l.books.members) (drop l.from l.books.members));
  next_is : l.next ≡ length (cuts_after l.from (take l.place l.books.members));
  from : l.from ≤ l.place;
  room : OUTPUT_BYTES ≤ vec_capacity l.buffer;
  kept : g.K.Sink.faults l.sink ≡ g.K.Sink.faults l.fn.sink;
}
