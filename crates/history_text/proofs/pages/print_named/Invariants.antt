use Rattle.std.proofs.Common.{◌≡◌, ◌≤◌, ◌<◌, ◌-◌, true, drop, length, vec_capacity}
use Rattle.setoff_model.specs.declared.limits.TheConstants.{OUTPUT_BYTES}
use Rattle.setoff_model.specs.CutView.{obligations}
use Rattle.setoff_model.specs.Setoff.{flow_at}
use Rattle.printed_text.specs.Printing.{lines_bytes}
use Rattle.printed_text.proofs.Passing.{GoesThroughUpTo}
use Rattle.history_text.specs.Lists.{names_at}
use Rattle.history_text.specs.Pages.{page_claims}
use Rattle.history_text.proofs.pages.print_named.Given as goal

abbrev pub invariant-loop-place : goal.invariant-loop-place
invariant-loop-place g l = record {
  passes : GoesThroughUpTo (g.K.Sink.held l.fn.sink) (g.K.Sink.held l.sink) l.fn.buffer.items l.buffer.items
      (lines_bytes (page_claims l.cut.parties l.party (drop l.place l.cut.claims) (drop l.place l.discharges))) (lines_bytes (page_claims l.cut.parties l.party l.cut.claims l.discharges));
  room : OUTPUT_BYTES ≤ vec_capacity l.buffer;
  kept : g.K.Sink.faults l.sink ≡ g.K.Sink.faults l.fn.sink;
  high : l.place ≤ length l.cut.claims;
  named : l.place < length l.cut.claims → names_at (obligations l.cut) l.party l.place ≡ true;
  received : l.net.received ≡ flow_at l.place (obligations l.cut).creditors l.discharges l.party;
  paid : l.net.paid ≡ flow_at l.place (obligations l.cut).debtors l.discharges l.party;
}

abbrev pub decreases-loop-place : goal.decreases-loop-place
decreases-loop-place g l = l.claims - l.place
