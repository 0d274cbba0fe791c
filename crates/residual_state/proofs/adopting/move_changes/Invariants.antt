use Rattle.std.specs.Prelude.{unsigned_abs}
use Rattle.std.proofs.Common.{ℕ, ◌+◌, ◌*◌, ◌<◌, ◌≤◌, ◌^◌, length}
use Rattle.residual_state.specs.Excesses.{excess_of}
use Rattle.residual_state.specs.Adoptions.{IsRebalanced}
use Rattle.residual_state.proofs.adopting.move_changes.Given as goal

abbrev pub invariant-loop-arc : goal.invariant-loop-arc
invariant-loop-arc l =
    IsRebalanced l.edges l.before l.after l.initial.excess l.excess l.arc
    × ((v : ℕ) → v < length l.excess → unsigned_abs (excess_of l.excess v) ≤ 2 ^ 100 + l.arc * 2 ^ 65)
