use Rattle.std.proofs.Common.{◌≡◌, ◌≤◌, drop, vec_capacity, flat_map}
use Rattle.setoff_model.specs.declared.limits.TheConstants.{OUTPUT_BYTES}
use Rattle.printed_text.proofs.Passing.{GoesThroughUpTo}
use Rattle.chain_text.specs.Texts.{claim_name}
use Rattle.chain_text.proofs.line.print_claim_names.Given as goal

abbrev pub invariant-loop-i : goal.invariant-loop-i
invariant-loop-i g l = record {
  passes : GoesThroughUpTo (g.K.Sink.held l.fn.sink) (g.K.Sink.held l.sink) l.fn.buffer.items l.buffer.items (flat_map (λ place. claim_name l.cut.claims place) (drop l.i l.places)) (flat_map (λ place. claim_name l.cut.claims place) l.places);
  room : OUTPUT_BYTES ≤ vec_capacity l.buffer;
  kept : g.K.Sink.faults l.sink ≡ g.K.Sink.faults l.fn.sink;
}
