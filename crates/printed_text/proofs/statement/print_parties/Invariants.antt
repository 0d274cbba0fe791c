use Rattle.std.proofs.Common.{◌≡◌, ◌≤◌, drop, vec_capacity}
use Rattle.setoff_model.specs.declared.limits.TheConstants.{OUTPUT_BYTES}
use Rattle.statement_text.specs.Statements.{party_lines}
use Rattle.printed_text.specs.Printing.{lines_bytes}
use Rattle.printed_text.proofs.Passing.{GoesThroughUpTo}
use Rattle.printed_text.proofs.statement.print_parties.Given as goal

abbrev pub invariant-loop-i : goal.invariant-loop-i
invariant-loop-i g l = record {
  passes : GoesThroughUpTo (g.K.Sink.held l.fn.sink) (g.K.Sink.held l.sink) l.fn.buffer.items l.buffer.items (lines_bytes (party_lines (drop l.i l.parties) (drop l.i l.prices))) (lines_bytes (party_lines l.parties l.prices));
  room : OUTPUT_BYTES ≤ vec_capacity l.buffer;
  kept : g.K.Sink.faults l.sink ≡ g.K.Sink.faults l.fn.sink;
}
