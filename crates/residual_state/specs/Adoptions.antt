-- Solutions that are taken whole.
use Rattle.std.specs.Prelude.{◌≡◌, ◌⊎◌, ℕ, Bool, true, false, ◌<◌, ◌≤◌, ◌^◌, List, length, slice_index, ℤ, pos, ◌+ℤ◌}
use Rattle.setoff_model.specs.declared.limits.TheConstants.{MOST_PRICE}
use Rattle.setoff_model.specs.Setoff.{flow_at}
use Rattle.setoff_model.specs.Squeezing.{IsNear}
use Rattle.residual_network.specs.Network.{ArcSlack}
use Rattle.residual_network.specs.declared.edge.Edge.{Edge}
use Rattle.residual_state.specs.declared.state.State.{State}
use Rattle.residual_state.specs.Excesses.{excess_of}
use Rattle.residual_state.specs.Edges.{tails, heads, capacities, graph}

-- the excess of each node is as the flows of the first m arcs say, where they are the new and no longer the old
pub record IsRebalanced (edges : List Edge) (x y : List ℕ) (e f : List ℤ) (m : ℕ) : Type 0 where
  pub one_each : length f ≡ length e
  pub moved : (v : ℕ) → v < length e →
      ((excess_of f v +ℤ pos (flow_at m (heads edges) x v)) +ℤ pos (flow_at m (tails edges) y v))
      ≡ ((excess_of e v +ℤ pos (flow_at m (heads edges) y v)) +ℤ pos (flow_at m (tails edges) x v))

-- a flow that fits each of fewer than 2^32 arcs, prices at which each keeps its facts, and no node has or wants any excess
pub record CanAdopt (w : State) (flows : List ℕ) (prices : List ℤ) : Type 0 where
  pub one_each : length flows ≡ length w.edges.items
  pub few : length w.edges.items < 2 ^ 32
  pub within : (a : ℕ) → a < length w.edges.items → slice_index flows a ≤ slice_index (capacities w.edges.items) a
  pub price_each : length prices ≡ length w.prices.items
  pub near : IsNear MOST_PRICE prices
  pub slack : ArcSlack (graph w.edges.items) flows prices
  pub rest : (v : ℕ) → v < length w.excess.items →
      ((excess_of w.excess.items v +ℤ pos (flow_at (length w.edges.items) (heads w.edges.items) flows v))
      +ℤ pos (flow_at (length w.edges.items) (tails w.edges.items) w.flows.items v))
      ≡ (pos (flow_at (length w.edges.items) (heads w.edges.items) w.flows.items v)
      +ℤ pos (flow_at (length w.edges.items) (tails w.edges.items) flows v))

-- they were taken where they may be, and else nothing was changed
abbrev pub IsAdopted : State → List ℕ → List ℤ → Bool → State → Type 0
IsAdopted old flows prices taken new =
    ((taken ≡ true) × CanAdopt old flows prices × (new.edges.items ≡ old.edges.items)
    × (new.flows.items ≡ flows) × (new.prices.items ≡ prices))
    ⊎ ((taken ≡ false) × (CanAdopt old flows prices → ⊥) × (new ≡ old))
