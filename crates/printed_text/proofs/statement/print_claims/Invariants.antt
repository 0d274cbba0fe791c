use Rattle.std.proofs.Common.{◌≡◌, ◌≤◌, drop, vec_capacity}
use Rattle.setoff_model.specs.declared.limits.TheConstants.{OUTPUT_BYTES}
use Rattle.statement_text.specs.Statements.{claim_lines}
use Rattle.printed_text.specs.Printing.{lines_bytes}
use Rattle.printed_text.proofs.Passing.{GoesThroughUpTo}
use Rattle.printed_text.proofs.statement.print_claims.Given as goal

abbrev pub invariant-loop-i : goal.invariant-loop-i
invariant-loop-i g l = record {
  passes : GoesThroughUpTo (g.K.Sink.held l.fn.sink) (g.K.Sink.held l.sink) l.fn.buffer.items l.buffer.items (lines_bytes (claim_lines l.cut.parties (drop l.i l.cut.claims) (drop l.i l.discharges))) (lines_bytes (claim_lines l.cut.parties l.cut.claims l.discharges));
  room : OUTPUT_BYTES ≤ vec_capacity l.buffer;
  kept : g.K.Sink.faults l.sink ≡ g.K.Sink.faults l.fn.sink;
}
