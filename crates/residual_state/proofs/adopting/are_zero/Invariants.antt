use Rattle.std.specs.Prelude.{pos}
use Rattle.std.proofs.Common.{◌≡◌, ℕ, ◌<◌}
use Rattle.residual_state.specs.Excesses.{excess_of}
use Rattle.residual_state.proofs.adopting.are_zero.Given as goal

abbrev pub invariant-loop-node : goal.invariant-loop-node
invariant-loop-node l = (v : ℕ) → v < l.node → excess_of l.excess v ≡ pos 0
