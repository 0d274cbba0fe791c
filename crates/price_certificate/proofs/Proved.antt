-- A solution that is spread and squeezed proves its set-off.
use Rattle.std.specs.Prelude.{ℤ}
use Rattle.std.proofs.Common.{◌≡◌, ℕ, List, length, sym, ◌∙◌, ap}
use Rattle.std.proofs.lemmas.List.{length-map}
use Rattle.setoff_model.specs.declared.cut.Party.{Party}
use Rattle.setoff_model.specs.Setoff.{IsLawful, Proves, total_of, bound_of}
use Rattle.setoff_model.specs.CutView.{CutView, obligations, spends}
use Rattle.setoff_model.specs.Squeezing.{IsSqueezed}
use Rattle.setoff_model.proofs.Near.{squeezing_keeps}
use Rattle.flow_solver.specs.netting_graph.specs.declared.arc.Arc.{Arc}
use Rattle.flow_solver.specs.netting_graph.specs.NetView.{NetView}
use Rattle.flow_solver.specs.netting_graph.specs.Merging.{IsNetOf, IsSpread}
use Rattle.flow_solver.specs.netting_graph.proofs.Kept.{spread_law, bound_law}
use Rattle.flow_solver.specs.Solution.{FlowView, IsSolution}

pub proved : (cut : CutView) (net : NetView) (flow : FlowView) (d : List ℕ) (q : List ℤ) →
    IsNetOf cut net → IsSolution net flow → IsSpread cut net flow.flows d → IsSqueezed flow.prices q → Proves (obligations cut) d q
proved cut net flow d q is solution spread squeezed =
    let parties : length net.parties ≡ length cut.parties = ap (λ (fs : List Party). length fs) is.parties in
    let windows : length (spends cut.parties) ≡ length cut.parties = length-map cut.parties (λ (f : Party). f.spend) in
    let arcs : length flow.flows ≡ length net.arcs = solution.lawful.one_each ∙ length-map net.arcs (λ (a : Arc). a.amount) in
    let each : length flow.prices ≡ length (spends cut.parties) = solution.price_each ∙ parties ∙ sym windows in
    let lawful : IsLawful (obligations cut) d = spread_law.lawful cut net flow.flows d is solution.lawful spread in
    let tight : total_of d ≡ bound_of (obligations cut) flow.prices = bound_law.tight cut net flow.flows d flow.prices is arcs spread solution.tight in
    squeezing_keeps.proves (obligations cut) d flow.prices q squeezed lawful each tight
