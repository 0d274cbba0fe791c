use Rattle.std.specs.List.{All}
use Rattle.std.proofs.Common.{◌≡◌, List, length, subst, sym, ◌∙◌, ap}
use Rattle.std.specs.Prelude.{map}
use Rattle.std.proofs.lemmas.Result.{IfOk-weaker}
use Rattle.residual_state.specs.setoff_model.specs.declared.cut.Party.{Party}
use Rattle.residual_state.specs.declared.state.State.{State}
use Rattle.residual_state.specs.Edges.{IsClaimEdge}
use Rattle.residual_state.specs.States.{IsStateOf, weighed_edges}
use Rattle.flow_solver.specs.Starts.{claim_edge}
use Rattle.flow_solver.proofs.Solved.{begins, claim_edges_are}
use Rattle.flow_solver.proofs.start.state_of_net.Goals as goal

pub state_at_start-requires-clause-claims : goal.state_at_start-requires-clause-claims
state_at_start-requires-clause-claims c =
    let edges : c.in_ok-edges.edges.items ≡ map claim_edge c.args.net.now.arcs = c.in_ok-edges.ensures ∙ ap (map claim_edge) c.arcs.ensures.arcs in
    subst (λ (ps : List Party). All (IsClaimEdge (length ps)) c.in_ok-edges.edges.items) (sym c.parties.ensures.parties)
    (claim_edges_are c.args.net.now c.in_ok-edges.edges.items c.arcs.ensures.net edges)

pub returns : goal.returns
returns c =
    let edges : c.in_ok-edges.edges.items ≡ map claim_edge c.args.net.now.arcs = c.in_ok-edges.ensures ∙ ap (map claim_edge) c.arcs.ensures.arcs in
    IfOk-weaker _ _ _
    (λ (w : State) is. begins c.args.net.now c.in_ok-edges.edges.items w edges
    (subst (λ (ps : List Party). IsStateOf (weighed_edges ps c.in_ok-edges.edges.items) w) c.parties.ensures.parties is))
    c.state_at_start.ensures
