-- Sums over a lawful flow of a net.
use Rattle.std.specs.Prelude.{slice_index, if◌then◌else◌, ◌==◌}
use Rattle.std.proofs.Common.{◌≡◌, ℕ, zero, suc, ◌<◌, ◌≤◌, ◌^◌, Bool, true, false, List, length, refl, ap, inl, inr, arith}
use Rattle.std.proofs.lemmas.Bool.{cases_eq}
use Rattle.setoff_model.specs.Sums.{sum_below}
use Rattle.setoff_model.specs.Setoff.{IsLawful, total_of, flow_at}
use Rattle.setoff_model.proofs.Circulation.{sum_below-le, sum_below-all}
use Rattle.netting_graph.specs.NetView.{NetView, IsNet, obligations_of_net, arc_amounts, arc_debtors, arc_creditors}
use Rattle.netting_graph.specs.MergingLaw.{FlowsAreBounded}
use Rattle.netting_graph.proofs.Columns.{arcs_long}

-- a sum of fewer terms is smaller
sum_below_front : (m n : ℕ) (g : ℕ → ℕ) → m ≤ n → sum_below m g ≤ sum_below n g
sum_below_front m zero g le = let e : m ≡ 0 = omega arith in omega (arith, ap (λ (k : ℕ). sum_below k g) e)
sum_below_front m (suc n) g le =
    elim (cases_eq m (suc n)) as (λ _. sum_below m g ≤ sum_below (suc n) g) [
      | inl e ↦ omega (arith, ap (λ (k : ℕ). sum_below k g) e)
      | inr ne ↦ omega (arith, sum_below_front m n g (omega arith))
    ]

if_le : (b : Bool) (u : ℕ) → (if b then u else 0) ≤ u
if_le true u = omega arith
if_le false u = omega arith

all_flow : (net : NetView) (flows : List ℕ) → IsNet net → IsLawful (obligations_of_net net) flows → total_of flows ≤ 262143999999737856
all_flow net flows is lawful =
    let n = length (arc_amounts net.arcs) in
    let all = sum_below-all flows n lawful.one_each in
    let most = sum_below-all (arc_amounts net.arcs) n refl in
    omega (arith, all, most, is.total, sum_below-le n (λ a. slice_index flows a) (λ a. slice_index (arc_amounts net.arcs) a) lawful.within)

flow_small : (net : NetView) (flows places : List ℕ) (m f : ℕ) → IsNet net → IsLawful (obligations_of_net net) flows
    → m ≤ length net.arcs → flow_at m places flows f < 2 ^ 58
flow_small net flows places m f is lawful le =
    let n = length (arc_amounts net.arcs) in
    let all = sum_below-all flows n lawful.one_each in
    let part = sum_below-le m (λ a. if slice_index places a == f then slice_index flows a else 0) (λ a. slice_index flows a)
    (λ a _. if_le (slice_index places a == f) (slice_index flows a)) in
    omega (arith, all, part, sum_below_front m n (λ a. slice_index flows a) (omega (arith, arcs_long net)), all_flow net flows is lawful)

pub flows_are_bounded : FlowsAreBounded
flows_are_bounded = record {
  total = λ net flows is lawful. omega (arith, all_flow net flows is lawful);
  inflow = λ net flows m f is lawful le. flow_small net flows (arc_creditors net.arcs) m f is lawful le;
  outflow = λ net flows m f is lawful le. flow_small net flows (arc_debtors net.arcs) m f is lawful le;
}
