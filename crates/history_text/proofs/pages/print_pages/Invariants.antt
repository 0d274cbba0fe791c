use Rattle.std.proofs.Common.{◌≡◌, ◌≤◌, drop, vec_capacity}
use Rattle.setoff_model.specs.declared.limits.TheConstants.{OUTPUT_BYTES}
use Rattle.printed_text.proofs.Passing.{GoesThroughUpTo}
use Rattle.history_text.specs.Pages.{pages_from, pages_text}
use Rattle.history_text.proofs.pages.print_pages.Given as goal

abbrev pub invariant-loop-place : goal.invariant-loop-place
invariant-loop-place g l = record {
  passes : GoesThroughUpTo (g.K.Sink.held l.fn.sink) (g.K.Sink.held l.sink) l.fn.buffer.items l.buffer.items
      (pages_from l.cut l.outcome.discharges l.place (drop l.place l.cut.parties) (drop l.place l.outcome.prices)) (pages_text l.cut l.outcome);
  room : OUTPUT_BYTES ≤ vec_capacity l.buffer;
  kept : g.K.Sink.faults l.sink ≡ g.K.Sink.faults l.fn.sink;
}
