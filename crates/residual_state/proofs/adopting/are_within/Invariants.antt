use Rattle.std.proofs.Common.{ℕ, ◌<◌, ◌≤◌, slice_index}
use Rattle.residual_state.specs.Edges.{capacities}
use Rattle.residual_state.proofs.adopting.are_within.Given as goal

abbrev pub invariant-loop-arc : goal.invariant-loop-arc
invariant-loop-arc l = (a : ℕ) → a < l.arc → slice_index l.flows a ≤ slice_index (capacities l.edges) a
