-- A solver's state: the arcs with a flow on each, the excess of each node and the price of each party.
use Rattle.std.specs.Prelude.{◌≡◌, ℕ, ◌+◌, ◌<◌, ◌≤◌, ◌^◌, List, length, slice_index, ℤ, unsigned_abs}
use Rattle.setoff_model.specs.declared.limits.TheConstants.{MOST_FIRMS, MOST_PRICE}
use Rattle.setoff_model.specs.Sums.{sum_below, above_zero}
use Rattle.setoff_model.specs.declared.cut.Party.{Party}
use Rattle.setoff_model.specs.Setoff.{Obligations, IsLawful}
use Rattle.setoff_model.specs.Weighted.{weighted_total_of, weighted_bound_of}
use Rattle.setoff_model.specs.Squeezing.{IsNear}
use Rattle.residual_network.specs.Network.{IsFlow, ArcSlack, excess_at}
use Rattle.residual_network.specs.NetworkOf.{IsNetworkOf, IsAmongParties}
use Rattle.residual_network.specs.declared.edge.Edge.{Edge}
use Rattle.residual_state.specs.Excesses.{excess_of}
use Rattle.residual_state.specs.declared.label.Labels.{Labels}
use Rattle.residual_state.specs.declared.state.State.{State}
use Rattle.residual_state.specs.Edges.{AreAmong, network_of, graph, rewards, obligations_of_edges}
use Rattle.residual_state.specs.Labels.{IsSearch, unlabelled}

-- the flow fits the arcs and keeps their facts at the prices, and all numbers are small
pub record IsSound (w : State) : Type 0 where
  pub among : AreAmong (length w.excess.items) w.edges.items
  pub flow : IsFlow (graph w.edges.items) w.flows.items
  pub slack : ArcSlack (graph w.edges.items) w.flows.items w.prices.items
  pub price_each : length w.excess.items ≡ length w.prices.items + 1
  pub few : length w.prices.items ≤ MOST_FIRMS
  pub near : IsNear MOST_PRICE w.prices.items
  pub small : (v : ℕ) → v < length w.excess.items → unsigned_abs (excess_of w.excess.items v) ≤ 2 ^ 100

-- obligations, and what a cent of each claim counts
pub record Weighed : Type 0 where
  pub obligations : Obligations
  pub weights : List ℕ

-- the state is on the network of the obligations, a unit on the arc of a claim counts what the claim weighs, and each node has
-- its excess
pub record IsStateOf (g : Weighed) (w : State) : Type 0 where
  pub sound : IsSound w
  pub network : IsNetworkOf g.obligations (network_of g.obligations.spends w.edges.items)
  pub counts : (c : ℕ) → c < length g.obligations.amounts →
      slice_index (rewards w.edges.items) c ≡ slice_index g.weights c
  pub among : IsAmongParties g.obligations
  pub node_each : length w.excess.items ≡ length g.obligations.spends + 1
  pub balanced : (v : ℕ) → v < length w.excess.items →
      excess_of w.excess.items v ≡ excess_at (network_of g.obligations.spends w.edges.items) w.flows.items v

-- the state is on some network
abbrev pub IsState : State → Type 0
IsState w = (g : Weighed) × IsStateOf g w

-- the new state is on each network that the old is on
abbrev pub StaysOn : State → State → Type 0
StaysOn old new = (g : Weighed) → IsStateOf g old → IsStateOf g new

-- what a state at rest has found: lawful flows on the claims, and prices that prove them by the weights
pub record IsFound (g : Weighed) (flows : List ℕ) (prices : List ℤ) : Type 0 where
  pub lawful : IsLawful g.obligations flows
  pub price_each : length prices ≡ length g.obligations.spends
  pub near : IsNear MOST_PRICE prices
  pub tight : weighted_total_of g.weights flows ≡ weighted_bound_of g.obligations g.weights prices

-- the parties and the arcs of their claims, on which a cent counts what the arc says
abbrev pub weighed_edges : List Party → List Edge → Weighed
weighed_edges parties edges = record { obligations = obligations_of_edges parties edges; weights = rewards edges }

-- the labels are a search at this state
abbrev pub IsSearchOf : State → Labels → Type 0
IsSearchOf w labels = IsSearch (graph w.edges.items) w.flows.items w.prices.items w.excess.items labels

-- nothing but prices is changed
pub record IsRepriced (old new : State) : Type 0 where
  pub edges : new.edges.items ≡ old.edges.items
  pub flows : new.flows.items ≡ old.flows.items
  pub excess : new.excess.items ≡ old.excess.items

-- labels are not lost
pub record IsGrown (old new : Labels) : Type 0 where
  pub found : length old.found.items ≤ length new.found.items
  pub fewer : unlabelled new.labelled.items ≤ unlabelled old.labelled.items

-- the sum of the excesses above 0
abbrev pub surplus : List ℤ → ℕ
surplus e = sum_below (length e) (λ v. above_zero (excess_of e v))
