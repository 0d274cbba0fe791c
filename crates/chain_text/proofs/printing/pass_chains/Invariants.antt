use Rattle.std.proofs.Common.{◌≡◌, ◌≤◌, List, vec_capacity}
use Rattle.setoff_model.specs.declared.limits.TheConstants.{OUTPUT_BYTES}
use Rattle.setoff_model.specs.CutView.{obligations}
use Rattle.printed_text.specs.Writing.{GoesThrough}
use Rattle.chain_explain.specs.Chains.{ChainView}
use Rattle.chain_explain.specs.Explained.{Gives, measure}
use Rattle.chain_text.specs.Texts.{chains_text}
use Rattle.chain_text.proofs.printing.pass_chains.Given as goal

abbrev pub invariant-loop-chain : goal.invariant-loop-chain
invariant-loop-chain g l = record {
  passed : (xs : List ChainView) × Gives (obligations l.fn.explainer.cut) l.fn.explainer xs l.explainer
      × GoesThrough (g.K.Sink.held l.fn.sink) (g.K.Sink.held l.sink) l.fn.buffer.items l.buffer.items (chains_text l.fn.explainer.cut xs);
  room : OUTPUT_BYTES ≤ vec_capacity l.buffer;
  kept : g.K.Sink.faults l.sink ≡ g.K.Sink.faults l.fn.sink;
}

abbrev pub decreases-loop-chain : goal.decreases-loop-chain
decreases-loop-chain g l = measure (obligations l.explainer.cut) l.explainer
