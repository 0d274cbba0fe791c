-- From a state at rest to a proved outcome.
use Rattle.std.specs.Prelude.{slice_index, map, ℤ}
use Rattle.std.specs.List.{All}
use Rattle.std.proofs.Common.{◌≡◌, ℕ, ◌*◌, ◌<◌, List, length, get_or, sym, ◌∙◌, ap, subst, arith}
use Rattle.std.proofs.lemmas.List.{length-map, get_or-map}
use Rattle.std.proofs.lemmas.List.Elements.{All-from_get_or}
use Rattle.setoff_model.specs.declared.limits.TheConstants.{MOST_WEIGHT}
use Rattle.setoff_model.specs.declared.cut.CutClaim.{CutClaim}
use Rattle.setoff_model.specs.declared.cut.Party.{Party}
use Rattle.setoff_model.specs.CutView.{CutView, WellFormed, obligations, debtors, creditors, amounts, spends, rooms}
use Rattle.setoff_model.specs.Weighted.{AreWeights, ProvesWeighted}
use Rattle.setoff_model.specs.Squeezing.{IsSqueezedTo, IsNear}
use Rattle.setoff_model.proofs.Columns.{no_claim, claims_long}
use Rattle.setoff_model.proofs.Narrowed.{narrowing_keeps}
use Rattle.level_solver.specs.residual_network.specs.declared.edge.Edge.{Edge}
use Rattle.level_solver.specs.residual_state.specs.declared.state.State.{State}
use Rattle.level_solver.specs.residual_state.specs.Edges.{IsClaimEdge, tails, heads, capacities, rewards}
use Rattle.level_solver.specs.residual_state.specs.States.{IsStateOf, IsFound, weighed_edges}
use Rattle.level_solver.specs.residual_state.proofs.Networks.{no_edge}
use Rattle.level_solver.specs.residual_state.proofs.Found.{state_of_columns}
use Rattle.weighted_setoff.specs.Starts.{AreEdgesOf, weighed_cut}

pub begins : (cut : CutView) (weights : List ℕ) (edges : List Edge) (w : State) → AreEdgesOf cut.claims weights edges → IsStateOf (weighed_edges cut.parties edges) w → IsStateOf (weighed_cut cut weights) w
begins cut weights edges w are is =
    state_of_columns (tails edges) (debtors cut.claims) (heads edges) (creditors cut.claims) (capacities edges) (amounts cut.claims) (rewards edges) weights (spends cut.parties) (rooms cut.parties) w
    are.tail are.head are.capacity are.reward is

-- the same, where the lists of the cut are named otherwise
pub begins_by : (cut : CutView) (weights : List ℕ) (edges : List Edge) (claims : List CutClaim) (parties : List Party) (w : State) → claims ≡ cut.claims → parties ≡ cut.parties →
    AreEdgesOf claims weights edges → IsStateOf (weighed_edges parties edges) w → IsStateOf (weighed_cut cut weights) w
begins_by cut weights edges claims parties w ec ep are is =
    begins cut weights edges w (subst (λ (cs : List CutClaim). AreEdgesOf cs weights edges) ec are)
    (subst (λ (ps : List Party). IsStateOf (weighed_edges ps edges) w) ep is)

module _ (cut : CutView) (weights : List ℕ) (edges : List Edge) (formed : WellFormed cut) (weigh : AreWeights (obligations cut) weights) (are : AreEdgesOf cut.claims weights edges) where
  pub edges_long : length edges ≡ length cut.claims
  edges_long = sym (length-map edges (λ (e : Edge). e.capacity)) ∙ ap length are.capacity ∙ claims_long cut

  at : (g : Edge → ℕ) (h : CutClaim → ℕ) → map g edges ≡ map h cut.claims → (k : ℕ) → k < length cut.claims → g (get_or edges k no_edge) ≡ h (get_or cut.claims k no_claim)
  at g h same k lt =
      sym (get_or-map g edges k no_edge 0 (omega (arith, edges_long, lt))) ∙ ap (λ (l : List ℕ). slice_index l k) same ∙ get_or-map h cut.claims k no_claim 0 lt

  pub claim_edges_are : All (IsClaimEdge (length cut.parties)) edges
  claim_edges_are = All-from_get_or (IsClaimEdge (length cut.parties)) edges no_edge (λ k lt.
      let in' : k < length cut.claims = omega (arith, lt, edges_long) in
      let claim = formed.claims k no_claim in' in
      let t = at (λ e. e.tail) (λ c. c.debtor) are.tail k in' in
      let h = at (λ e. e.head) (λ c. c.creditor) are.head k in' in
      let u = at (λ e. e.capacity) (λ c. c.amount) are.capacity k in' in
      let r : (get_or edges k no_edge).reward ≡ slice_index weights k = sym (get_or-map (λ (e : Edge). e.reward) edges k no_edge 0 lt) ∙ ap (λ (l : List ℕ). slice_index l k) are.reward in
      let debtor = claim.debtor in
      let creditor = claim.creditor in
      let most = claim.limit in
      let weight = weigh.limit k (omega (arith, claims_long cut, in')) in
      record {
        tail = omega (arith, t, debtor);
        head = omega (arith, h, creditor);
        apart = λ e. claim.apart (sym t ∙ e ∙ h);
        limit = omega (arith, u, most);
        reward = omega (arith, r, weight);
      })

pub proved : (cut : CutView) (weights d : List ℕ) (p q : List ℤ) → AreWeights (obligations cut) weights → IsFound (weighed_cut cut weights) d p → IsSqueezedTo MOST_WEIGHT p q →
    IsNear (MOST_WEIGHT * length p) q → ProvesWeighted (obligations cut) weights d q
proved cut weights d p q weigh found squeezed near =
    narrowing_keeps.proves (obligations cut) weights d p q weigh squeezed near found.lawful found.price_each found.tight
