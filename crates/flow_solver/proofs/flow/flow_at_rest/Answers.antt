use Rattle.std.proofs.Common.{List, subst, sym, ◌∙◌, ap, length}
use Rattle.std.proofs.lemmas.List.{length-map}
use Rattle.netting_graph.specs.declared.arc.Arc.{Arc}
use Rattle.flow_solver.specs.Starts.{unweighed}
use Rattle.flow_solver.specs.Solution.{FlowView, IsSolution}
use Rattle.flow_solver.proofs.Solved.{solution}
use Rattle.flow_solver.proofs.flow.flow_at_rest.Goals as goal

pub returns : goal.returns
returns c =
    let arcs = ap (λ (l : List Arc). length l) c.arcs.ensures.arcs ∙ sym (length-map c.args.net.now.arcs (λ (a : Arc). a.amount)) in
    subst (λ (f : FlowView). IsSolution c.args.net.now f) (sym c.new.ensures)
    (solution c.args.net.now _ _ (c.found_at_rest-flows.ensures (unweighed c.args.net.now) c.requires.state arcs))
