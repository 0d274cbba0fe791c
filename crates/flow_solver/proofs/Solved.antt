-- A state at rest is a solution.
use Rattle.std.specs.Prelude.{slice_index, map, ℤ}
use Rattle.std.specs.List.{All}
use Rattle.std.proofs.Common.{◌≡◌, ℕ, ◌<◌, List, [], ◌∷◌, length, get_or, refl, sym, ◌∙◌, ap, arith}
use Rattle.std.proofs.lemmas.List.{length-map, get_or-map}
use Rattle.std.proofs.lemmas.List.Elements.{All-get_or, All-from_get_or}
use Rattle.residual_state.specs.setoff_model.specs.declared.cut.Party.{Party}
use Rattle.residual_state.specs.setoff_model.specs.CutView.{spends, rooms}
use Rattle.residual_state.specs.setoff_model.proofs.Weighed.{total_of_ones, bound_of_ones}
use Rattle.netting_graph.specs.declared.arc.Arc.{Arc}
use Rattle.netting_graph.specs.NetView.{NetView, IsNet, IsArcAmong, obligations_of_net, arc_debtors, arc_creditors, arc_amounts}
use Rattle.residual_state.specs.residual_network.specs.declared.edge.Edge.{Edge}
use Rattle.residual_state.specs.declared.state.State.{State}
use Rattle.residual_state.specs.Edges.{IsClaimEdge, tails, heads, capacities, rewards}
use Rattle.residual_state.specs.States.{IsStateOf, IsFound, weighed_edges}
use Rattle.residual_state.proofs.Networks.{no_edge}
use Rattle.residual_state.proofs.Found.{state_of_columns}
use Rattle.flow_solver.specs.Solution.{IsSolution}
use Rattle.flow_solver.specs.Starts.{claim_edge, unweighed}

abbrev no_arc : Arc
no_arc = record { debtor = 0; creditor = 0; amount = 0 }

one_at : (arcs : List Arc) (c : ℕ) → c < length arcs → slice_index (map (λ (a : Arc). 1) arcs) c ≡ 1
one_at arcs c lt = get_or-map (λ (a : Arc). 1) arcs c no_arc 0 lt

pub solution : (net : NetView) (d : List ℕ) (p : List ℤ) → IsFound (unweighed net) d p → IsSolution net (record { flows = d; prices = p })
solution net d p found =
    let parties : length (spends net.parties) ≡ length net.parties = length-map net.parties (λ (f : Party). f.spend) in
    let arcs : length (arc_amounts net.arcs) ≡ length net.arcs = length-map net.arcs (λ (a : Arc). a.amount) in
    record {
      lawful = found.lawful;
      price_each = found.price_each ∙ parties;
      near = λ f lt. let n = found.near f lt in omega (arith, n);
      tight = sym (total_of_ones (unweighed net).weights d (λ c lt. one_at net.arcs c (omega (arith, lt, found.lawful.one_each, arcs)))) ∙ found.tight
          ∙ bound_of_ones (obligations_of_net net) (unweighed net).weights p (λ c lt. one_at net.arcs c (omega (arith, lt, arcs)));
    }

-- ---- the arcs of a net

columns : (g : Edge → ℕ) (h : Arc → ℕ) → ((a : Arc) → g (claim_edge a) ≡ h a) → (arcs : List Arc) → map g (map claim_edge arcs) ≡ map h arcs
columns g h same [] = refl
columns g h same (a ∷ arcs) = ap (λ x. x ∷ map g (map claim_edge arcs)) (same a) ∙ ap (λ l. h a ∷ l) (columns g h same arcs)

pub begins : (net : NetView) (edges : List Edge) (w : State) → edges ≡ map claim_edge net.arcs → IsStateOf (weighed_edges net.parties edges) w → IsStateOf (unweighed net) w
begins net edges w e is =
    state_of_columns (tails edges) (arc_debtors net.arcs) (heads edges) (arc_creditors net.arcs) (capacities edges) (arc_amounts net.arcs) (rewards edges) (unweighed net).weights (spends net.parties) (rooms net.parties) w
    (ap tails e ∙ columns (λ x. x.tail) (λ a. a.debtor) (λ a. refl) net.arcs)
    (ap heads e ∙ columns (λ x. x.head) (λ a. a.creditor) (λ a. refl) net.arcs)
    (ap capacities e ∙ columns (λ x. x.capacity) (λ a. a.amount) (λ a. refl) net.arcs)
    (ap rewards e ∙ columns (λ x. x.reward) (λ a. 1) (λ a. refl) net.arcs)
    is

pub claim_edges_are : (net : NetView) (edges : List Edge) → IsNet net → edges ≡ map claim_edge net.arcs → All (IsClaimEdge (length net.parties)) edges
claim_edges_are net edges is e =
    All-from_get_or (IsClaimEdge (length net.parties)) edges no_edge
    (λ k lt.
    let in' : k < length net.arcs = omega (arith, lt, ap length e, length-map net.arcs claim_edge) in
    let at = All-get_or (IsArcAmong net.parties) net.arcs k no_arc in' is.arcs in
    let x : get_or edges k no_edge ≡ claim_edge (get_or net.arcs k no_arc) = ap (λ (l : List Edge). get_or l k no_edge) e ∙ get_or-map claim_edge net.arcs k no_arc no_edge in' in
    let claim : IsClaimEdge (length net.parties) (claim_edge (get_or net.arcs k no_arc)) = record { tail = at.debtor; head = at.creditor; apart = at.apart; limit = at.limit; reward = omega arith } in
    rw x claim)
