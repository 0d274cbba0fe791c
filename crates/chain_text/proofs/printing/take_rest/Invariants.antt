use Rattle.setoff_model.specs.CutView.{obligations}
use Rattle.chain_explain.specs.Explained.{measure}
use Rattle.chain_text.proofs.Chained.{HasGivenSome}
use Rattle.chain_text.proofs.printing.take_rest.Given as goal

abbrev pub invariant-loop-chain : goal.invariant-loop-chain
invariant-loop-chain l = record { some : HasGivenSome l.fn.explainer l.explainer }

abbrev pub decreases-loop-chain : goal.decreases-loop-chain
decreases-loop-chain l = measure (obligations l.explainer.cut) l.explainer
