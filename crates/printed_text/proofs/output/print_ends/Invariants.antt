use Rattle.std.proofs.Common.{◌≡◌, ◌≤◌, drop, vec_capacity}
use Rattle.setoff_model.specs.declared.limits.TheConstants.{OUTPUT_BYTES}
use Rattle.printed_text.specs.Printing.{answers_in, ends_text}
use Rattle.printed_text.proofs.Passing.{GoesThroughUpTo}
use Rattle.printed_text.proofs.output.print_ends.Given as goal

abbrev pub invariant-loop-place : goal.invariant-loop-place
invariant-loop-place g l = record {
  passes : GoesThroughUpTo (g.K.Sink.held l.fn.sink) (g.K.Sink.held l.sink) l.fn.buffer.items l.buffer.items (ends_text (drop l.place (answers_in l.answers))) (ends_text (answers_in l.answers));
  room : OUTPUT_BYTES ≤ vec_capacity l.buffer;
  kept : g.K.Sink.faults l.sink ≡ g.K.Sink.faults l.fn.sink;
}
