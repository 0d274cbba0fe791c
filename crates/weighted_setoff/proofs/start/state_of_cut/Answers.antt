use Rattle.std.specs.List.{All}
use Rattle.std.proofs.Common.{List, length, subst, sym}
use Rattle.std.proofs.lemmas.Result.{IfOk-weaker}
use Rattle.setoff_model.specs.declared.cut.Party.{Party}
use Rattle.setoff_model.specs.declared.cut.CutClaim.{CutClaim}
use Rattle.level_solver.specs.residual_state.specs.declared.state.State.{State}
use Rattle.level_solver.specs.residual_state.specs.Edges.{IsClaimEdge}
use Rattle.weighted_setoff.specs.Starts.{AreEdgesOf}
use Rattle.weighted_setoff.proofs.Solved.{begins_by, claim_edges_are}
use Rattle.weighted_setoff.proofs.start.state_of_cut.Goals as goal

pub state_at_start-requires-clause-claims : goal.state_at_start-requires-clause-claims
state_at_start-requires-clause-claims c =
    let are : AreEdgesOf c.args.cut.now.claims c.args.weights.now c.in_ok-edges.edges.items = subst (λ (cs : List CutClaim). AreEdgesOf cs c.args.weights.now c.in_ok-edges.edges.items) c.claims.ensures c.in_ok-edges.ensures in
    subst (λ (ps : List Party). All (IsClaimEdge (length ps)) c.in_ok-edges.edges.items) (sym c.parties.ensures)
    (claim_edges_are c.args.cut.now c.args.weights.now c.in_ok-edges.edges.items c.requires.cut c.requires.weights are)

pub returns : goal.returns
returns c =
    IfOk-weaker _ _ _
    (λ (w : State) is. begins_by c.args.cut.now c.args.weights.now c.in_ok-edges.edges.items _ _ w c.claims.ensures c.parties.ensures c.in_ok-edges.ensures is)
    c.state_at_start.ensures
