use Rattle.std.proofs.Common.{◌≡◌}
use Rattle.setoff_model.specs.CutView.{creditors}
use Rattle.setoff_model.specs.Setoff.{flow_at}
use Rattle.journal_summaries.proofs.flows.flow_towards.Given as goal

-- the flow of the claims so far
abbrev pub invariant-loop-i : goal.invariant-loop-i
invariant-loop-i l = record { sum : l.sum ≡ flow_at l.i (creditors l.cut.claims) l.discharges l.place }
