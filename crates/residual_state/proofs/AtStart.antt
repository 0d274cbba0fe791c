-- The state at the beginning.
use Rattle.std.specs.Prelude.{slice_index, if◌then◌else◌, ◌==◌, pos, ◌-ℤ◌}
use Rattle.std.specs.List.{All}
use Rattle.std.proofs.Common.{◌≡◌, ℕ, ◌+◌, ◌<◌, ◌≤◌, List, [], ◌∷◌, ◌++◌, length, sym, ◌∙◌, ap, arith, length-append}
use Rattle.std.proofs.lemmas.Int.{ints}
use Rattle.std.proofs.lemmas.List.{length-map}
use Rattle.setoff_model.specs.declared.limits.TheConstants.{MOST_FIRMS, MOST_CLAIMS}
use Rattle.setoff_model.specs.declared.cut.Party.{Party}
use Rattle.setoff_model.specs.Setoff.{Obligations, price_at, flow_at}
use Rattle.setoff_model.specs.CutView.{spends}
use Rattle.setoff_model.proofs.Circulation.{sum_below-same, sum_below-none}
use Rattle.residual_network.specs.Network.{Network, IsFlow, ArcSlack, AreArcsAmong, excess_at}
use Rattle.residual_network.specs.NetworkOf.{IsNetworkOf, empty_flow, full_flow}
use Rattle.setoff_model.proofs.Sums.{sum_below-split}
use Rattle.residual_network.proofs.Beginning.{nothing, empty_claim, empty_window, full_claim, full_window, network_law}
use Rattle.residual_network.specs.declared.edge.Edge.{Edge}
use Rattle.residual_state.specs.declared.state.State.{State}
use Rattle.residual_state.specs.Edges.{AreAmong, AreWindows, IsClaimEdge, obligations_of_edges, tails, heads, capacities, rewards, network_of, graph}
use Rattle.residual_state.specs.Starts.{IsDifference}
use Rattle.residual_state.specs.States.{IsStateOf, weighed_edges}
use Rattle.residual_state.proofs.Networks.{among_parties, in_range, network_is, counts_kept}
use Rattle.residual_state.proofs.Starting.{difference_small}

-- ---- excesses of the full flow

-- what the first m arcs bring is what a flow has beyond one that has nothing there, and the same elsewhere
beyond : (m n : ℕ) (places x z : List ℕ) (v : ℕ) → ((c : ℕ) → c < m → slice_index z c ≡ 0) → ((k : ℕ) → k < n → slice_index x (m + k) ≡ slice_index z (m + k)) → flow_at (m + n) places x v ≡ flow_at (m + n) places z v + flow_at m places x v
beyond m n places x z v none same =
    let sx = sum_below-split m n (λ c. if slice_index places c == v then slice_index x c else 0) in
    let sz = sum_below-split m n (λ c. if slice_index places c == v then slice_index z c else 0) in
    let zero = sum_below-none m (λ c. if slice_index places c == v then slice_index z c else 0) (λ c lt. nothing (slice_index places c) v (slice_index z c) (none c lt)) in
    let rest = sum_below-same n (λ k. if slice_index places (m + k) == v then slice_index x (m + k) else 0) (λ k. if slice_index places (m + k) == v then slice_index z (m + k) else 0)
    (λ k lt. ap (λ y. if slice_index places (m + k) == v then y else 0) (same k lt)) in
    omega (arith, sx, sz, zero, rest)

-- flows at places that are the same
same_flow_at : (m : ℕ) (ps qs xs ys : List ℕ) (v : ℕ) → ((c : ℕ) → c < m → slice_index ps c ≡ slice_index qs c) → ((c : ℕ) → c < m → slice_index xs c ≡ slice_index ys c) → flow_at m ps xs v ≡ flow_at m qs ys v
same_flow_at m ps qs xs ys v p x =
    sum_below-same m (λ c. if slice_index ps c == v then slice_index xs c else 0) (λ c. if slice_index qs c == v then slice_index ys c else 0)
    (λ c lt. ap (λ k. if k == v then slice_index xs c else 0) (p c lt) ∙ ap (λ y. if slice_index qs c == v then y else 0) (x c lt))

module _ (o : Obligations) (net : Network) (is : IsNetworkOf o net) where
  -- at the nodes where claims stand
  full_at : (places claims : List ℕ) (v : ℕ) → ((c : ℕ) → c < length o.amounts → slice_index places c ≡ slice_index claims c) →
      flow_at (length net.arcs.capacities) places (full_flow o) v ≡ flow_at (length net.arcs.capacities) places (empty_flow o) v + flow_at (length o.amounts) claims o.amounts v
  full_at places claims v same =
      let split = beyond (length o.amounts) (length o.spends) places (full_flow o) (empty_flow o) v (empty_claim o) (λ k lt. full_window o k ∙ sym (empty_window o k)) in
      let claim = same_flow_at (length o.amounts) places claims (full_flow o) o.amounts v same (full_claim o) in
      let one = ap (λ k. flow_at k places (full_flow o) v) is.arcs in
      let two = ap (λ k. flow_at k places (empty_flow o) v) is.arcs in
      omega (arith, split, claim, one, two)

  full_excess : (v : ℕ) → v < length net.supplies → excess_at net (full_flow o) v ≡ pos (flow_at (length o.amounts) o.creditors o.amounts v) -ℤ pos (flow_at (length o.amounts) o.debtors o.amounts v)
  full_excess v lt =
      let rest = network_law.empty_rests o net is v lt in
      omega (arith, ints, rest, full_at net.arcs.heads o.creditors v is.head, full_at net.arcs.tails o.debtors v is.tail)

-- ---- the state

among_of : (edges : List Edge) (n m : ℕ) → n ≡ m → AreArcsAmong m (graph edges) → AreAmong n edges
among_of edges n m e are =
    let caps : length (capacities edges) ≡ length edges = length-map edges (λ (x : Edge). x.capacity) in
    record {
      tail = λ a lt. let t = are.tail a (omega (arith, caps)) in omega (arith, t, e);
      head = λ a lt. let t = are.head a (omega (arith, caps)) in omega (arith, t, e);
      apart = λ a lt. are.apart a (omega (arith, caps));
      reward = λ a lt. are.reward a (omega (arith, caps));
    }

pub started : (parties : List Party) (claims windows : List Edge) (w : State) → length parties ≤ MOST_FIRMS → length claims ≤ MOST_CLAIMS → All (IsClaimEdge (length parties)) claims →
    AreWindows parties (length parties) windows → w.edges.items ≡ claims ++ windows → w.flows.items ≡ full_flow (obligations_of_edges parties claims) → length w.excess.items ≡ length parties + 1 →
    IsDifference claims w.excess.items (length claims) → length w.prices.items ≡ length parties → ((f : ℕ) → price_at w.prices.items f ≡ pos 0) → IsStateOf (weighed_edges parties claims) w
started parties claims windows w few_parties few_claims are of edges flows nodes differ prices zeros =
    let long : length (spends parties) ≡ length parties = length-map parties (λ (f : Party). f.spend) in
    let caps : length (capacities claims) ≡ length claims = length-map claims (λ (e : Edge). e.capacity) in
    let node_each : length (spends parties ++ 0 ∷ []) ≡ length (spends parties) + 1 = length-append (spends parties) (0 ∷ []) in
    let whole = network_is parties claims are windows of in
    let network : IsNetworkOf (obligations_of_edges parties claims) (network_of (spends parties) w.edges.items) = rw edges whole in
    let flow : IsFlow (graph w.edges.items) (full_flow (obligations_of_edges parties claims)) = network_law.full (obligations_of_edges parties claims) (network_of (spends parties) w.edges.items) network in
    let facts : ArcSlack (graph w.edges.items) (full_flow (obligations_of_edges parties claims)) w.prices.items = network_law.full_slack (obligations_of_edges parties claims) (network_of (spends parties) w.edges.items) w.prices.items network zeros in
    let among = among_parties parties claims are in
    record {
      sound = record {
        among = among_of w.edges.items (length w.excess.items) (length (spends parties ++ 0 ∷ [])) (omega (arith, nodes, long, node_each)) (network_law.among (obligations_of_edges parties claims) (network_of (spends parties) w.edges.items) network among);
        flow = rw flows flow;
        slack = rw flows facts;
        price_each = omega (arith, nodes, prices);
        few = omega (arith, prices, few_parties);
        near = λ f lt. let z = zeros f in omega (arith, ints, z);
        small = λ v lt.
            let d = difference_small (length w.excess.items) (length claims) claims w.excess.items v (in_range parties claims are (length w.excess.items) nodes) (omega arith) few_claims lt differ in
            omega (arith, d);
      };
      network = network;
      counts = λ c lt. ap (λ (es : List Edge). slice_index (rewards es) c) edges ∙ counts_kept parties claims are windows c lt;
      among = among;
      node_each = omega (arith, nodes, long);
      balanced = λ v lt.
          let e = full_excess (obligations_of_edges parties claims) (network_of (spends parties) w.edges.items) network v (omega (arith, lt, nodes, long, node_each)) in
          let d = differ v lt in
          let c = ap (λ k. flow_at k (heads claims) (capacities claims) v) caps in
          let t = ap (λ k. flow_at k (tails claims) (capacities claims) v) caps in
          let x = ap (λ (ys : List ℕ). excess_at (network_of (spends parties) w.edges.items) ys v) flows in
          omega (arith, ints, e, d, c, t, x);
    }
