-- A cut and its net have the same lawful set-offs, totals and bounds.
use Rattle.std.specs.Prelude.{◌≡◌, ℕ, ◌<◌, ◌≤◌, ◌^◌, List, ℤ, length}
use Rattle.setoff_model.specs.Setoff.{IsLawful, IsGreatest, total_of, bound_of, flow_at, inflow, outflow}
use Rattle.setoff_model.specs.CutView.{CutView, obligations}
use Rattle.netting_graph.specs.NetView.{NetView, IsNet, arc_debtors, arc_creditors, obligations_of_net}
use Rattle.netting_graph.specs.Merging.{IsNetOf, IsSpread, merged}

-- discharges, merged to a flow on the arcs
pub record MergedLaw : Type 0 where
  pub total : (cut : CutView) (net : NetView) (d : List ℕ) → IsNetOf cut net → IsLawful (obligations cut) d →
      total_of (merged cut net d) ≡ total_of d
  pub inflow : (cut : CutView) (net : NetView) (d : List ℕ) (f : ℕ) → IsNetOf cut net →
      inflow (obligations_of_net net) (merged cut net d) f ≡ inflow (obligations cut) d f
  pub outflow : (cut : CutView) (net : NetView) (d : List ℕ) (f : ℕ) → IsNetOf cut net →
      outflow (obligations_of_net net) (merged cut net d) f ≡ outflow (obligations cut) d f
  pub lawful : (cut : CutView) (net : NetView) (d : List ℕ) → IsNetOf cut net → IsLawful (obligations cut) d →
      IsLawful (obligations_of_net net) (merged cut net d)

-- a flow on the arcs, spread over the claims
pub record SpreadLaw : Type 0 where
  pub total : (cut : CutView) (net : NetView) (flows d : List ℕ) → IsNetOf cut net → length flows ≡ length net.arcs →
      IsSpread cut net flows d → total_of d ≡ total_of flows
  pub inflow : (cut : CutView) (net : NetView) (flows d : List ℕ) (f : ℕ) → IsNetOf cut net → IsSpread cut net flows d →
      inflow (obligations cut) d f ≡ inflow (obligations_of_net net) flows f
  pub outflow : (cut : CutView) (net : NetView) (flows d : List ℕ) (f : ℕ) → IsNetOf cut net →
      IsSpread cut net flows d → outflow (obligations cut) d f ≡ outflow (obligations_of_net net) flows f
  pub lawful : (cut : CutView) (net : NetView) (flows d : List ℕ) → IsNetOf cut net →
      IsLawful (obligations_of_net net) flows → IsSpread cut net flows d → IsLawful (obligations cut) d

-- the bounds are the same, so proving prices of a flow prove its discharges, and a greatest flow is spread to a greatest set-off
pub record BoundLaw : Type 0 where
  pub bound : (cut : CutView) (net : NetView) (p : List ℤ) → IsNetOf cut net →
      bound_of (obligations_of_net net) p ≡ bound_of (obligations cut) p
  pub tight : (cut : CutView) (net : NetView) (flows d : List ℕ) (p : List ℤ) → IsNetOf cut net →
      length flows ≡ length net.arcs → IsSpread cut net flows d → total_of flows ≡ bound_of (obligations_of_net net) p →
      total_of d ≡ bound_of (obligations cut) p
  pub greatest : (cut : CutView) (net : NetView) (flows d : List ℕ) → IsNetOf cut net → IsSpread cut net flows d →
      IsGreatest (obligations_of_net net) flows → IsGreatest (obligations cut) d

-- no sum over a lawful flow of a net, whole or of its first members, reaches 2^58
pub record FlowsAreBounded : Type 0 where
  pub total : (net : NetView) (flows : List ℕ) → IsNet net → IsLawful (obligations_of_net net) flows →
      total_of flows < 2 ^ 58
  pub inflow : (net : NetView) (flows : List ℕ) (m f : ℕ) → IsNet net → IsLawful (obligations_of_net net) flows →
      m ≤ length net.arcs → flow_at m (arc_creditors net.arcs) flows f < 2 ^ 58
  pub outflow : (net : NetView) (flows : List ℕ) (m f : ℕ) → IsNet net → IsLawful (obligations_of_net net) flows →
      m ≤ length net.arcs → flow_at m (arc_debtors net.arcs) flows f < 2 ^ 58
