use Rattle.std.proofs.Common.{take}
use Rattle.weighted_setoff.specs.Starts.{AreEdgesOf}
use Rattle.weighted_setoff.proofs.start.claim_edges.Given as goal

abbrev pub invariant-loop-place : goal.invariant-loop-place
invariant-loop-place l = AreEdgesOf (take l.place l.claims) (take l.place l.weights) l.edges.items
