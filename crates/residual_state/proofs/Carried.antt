-- A step over an arc with gain 0, and what it leaves.
use Rattle.std.specs.Prelude.{Bool, slice_index, slice_index_or, ℤ, pos, unsigned_abs}
use Rattle.std.proofs.Common.{◌≡◌, ◌≢◌, ℕ, suc, ◌+◌, ◌<◌, ◌≤◌, ◌^◌, List, length, set, sym, ◌∙◌, ap, subst, inl, inr, arith}
use Rattle.std.proofs.lemmas.Bool.{cases_eq, true≢false}
use Rattle.std.proofs.lemmas.Int.{ints}
use Rattle.std.proofs.lemmas.List.{length-map}
use Rattle.setoff_model.specs.Sums.{sum_below, above_zero}
use Rattle.setoff_model.specs.Setoff.{price_at}
use Rattle.residual_network.specs.Network.{Arcs, arc_gain, brought, IsFlow, IsMoved, excess_at}
use Rattle.residual_network.proofs.Pushes.{push_law, surplus_law}
use Rattle.residual_network.specs.declared.edge.Edge.{Edge}
use Rattle.residual_state.specs.declared.state.State.{State}
use Rattle.residual_state.specs.Edges.{network_of, graph, capacities}
use Rattle.residual_state.specs.States.{StaysOn}
use Rattle.residual_network.specs.declared.push.Push.{Push}
use Rattle.residual_state.specs.declared.carrying.Step.{Step}
use Rattle.residual_state.proofs.Settling.{both_moved}
use Rattle.residual_state.specs.Carries.{IsStep, IsFit, IsCarried, AreCarried, IsNoWorse}

-- the numbers stay small
small_after : (e f : List ℤ) (step : Step) (d v : ℕ) → d < 2 ^ 64 → IsFit e step d → IsMoved (price_at e) (price_at f) step.from step.to d → ((u : ℕ) → u < length e → unsigned_abs (price_at e u) ≤ 2 ^ 100) → v < length e → unsigned_abs (price_at f v) ≤ 2 ^ 100
small_after e f step d v few fit moved small lt =
    elim (cases_eq v step.from) as (λ _. unsigned_abs (price_at f v) ≤ 2 ^ 100) [
      | inl vs ↦ let a = ap (price_at f) vs ∙ moved.from in let c = small step.from fit.from in let low = fit.above in omega (arith, ints, a, c, low, few)
      | inr vs ↦ elim (cases_eq v step.to) as (λ _. unsigned_abs (price_at f v) ≤ 2 ^ 100) [
        | inl vt ↦ let a = ap (price_at f) vt ∙ moved.to in let c = small step.to fit.to in let high = fit.below in omega (arith, ints, a, c, high, few)
        | inr vt ↦ let a = moved.others v vs vt in let c = small v lt in omega (arith, ints, a, c)
      ]
    ]

-- two steps over one arc are between the same nodes
same_ends : (arcs : Arcs) (x : List ℕ) (a d : ℕ) (along : Bool) (s t : Step) → IsStep arcs x a along d s → IsStep arcs x a along d t → (s.from ≡ t.from) × (s.to ≡ t.to)
same_ends arcs x a d along s t one two =
    elim one as (λ _. (s.from ≡ t.from) × (s.to ≡ t.to)) [
      | inl o ↦ elim two as (λ _. (s.from ≡ t.from) × (s.to ≡ t.to)) [
        | inl w ↦ (sym o.1 ∙ w.1, sym o.2 ∙ w.2)
        | inr w ↦ absurd (true≢false (sym o.0 ∙ w.0))
      ]
      | inr o ↦ elim two as (λ _. (s.from ≡ t.from) × (s.to ≡ t.to)) [
        | inl w ↦ absurd (true≢false (sym w.0 ∙ o.0))
        | inr w ↦ (sym o.1 ∙ w.1, sym o.2 ∙ w.2)
      ]
    ]

-- where one fits, so does the other
pub fit_alike : (arcs : Arcs) (x : List ℕ) (a d : ℕ) (along : Bool) (s t : Step) (e : List ℤ) → IsStep arcs x a along d s → IsStep arcs x a along d t → IsFit e t d → IsFit e s d
fit_alike arcs x a d along s t e one two fit =
    let ends = same_ends arcs x a d along s t one two in
    record {
      apart = rw (ends.0, ends.1) fit.apart;
      from = rw ends.0 fit.from;
      to = rw ends.1 fit.to;
      above = rw ends.0 fit.above;
      below = rw ends.1 fit.below;
      level = rw (ends.0, ends.1) fit.level;
    }

-- the step fits the arc, and moves the amount
fits_arc : (arcs : Arcs) (x : List ℕ) (a d : ℕ) (along : Bool) (step : Step) → IsFlow arcs x → a < length arcs.capacities → IsStep arcs x a along d step → step.flow ≤ slice_index arcs.capacities a
fits_arc arcs x a d along step flow lt is =
    elim is as (λ _. step.flow ≤ slice_index arcs.capacities a) [
      | inl s ↦ s.4
      | inr s ↦ let w = flow.within a lt in omega (arith, s.3, w)
    ]

moves : (arcs : Arcs) (x : List ℕ) (a d : ℕ) (along : Bool) (step : Step) → IsFlow arcs x → a < length arcs.capacities → slice_index arcs.tails a ≢ slice_index arcs.heads a → IsStep arcs x a along d step → IsMoved (brought arcs x) (brought arcs (set x a step.flow)) step.from step.to d
moves arcs x a d along step flow lt apart step_is =
    elim step_is as (λ _. IsMoved (brought arcs x) (brought arcs (set x a step.flow)) step.from step.to d) [
      | inl s ↦ rw (← s.1, ← s.2, s.3) (push_law.forward arcs x a d flow lt apart)
      | inr s ↦ rw (← s.1, ← s.2, s.3) (push_law.back arcs x a d flow lt apart s.4)
    ]

module _ (w v : State) (a d : ℕ) (along : Bool) (step : Step) (few : d < 2 ^ 64) (within : a < length w.edges.items) (even : arc_gain (graph w.edges.items) w.prices.items a ≡ pos 0)
    (is : IsStep (graph w.edges.items) w.flows.items a along d step) (fit : IsFit w.excess.items step d)
    (edges : v.edges.items ≡ w.edges.items) (flows : v.flows.items ≡ set w.flows.items a step.flow) (prices : v.prices.items ≡ w.prices.items)
    (each : length v.excess.items ≡ length w.excess.items) (moved : IsMoved (price_at w.excess.items) (price_at v.excess.items) step.from step.to d) where
  caps : length (capacities w.edges.items) ≡ length w.edges.items
  caps = length-map w.edges.items (λ (e : Edge). e.capacity)

  kept : StaysOn w v
  kept g state =
      let sound = state.sound in
      let in' : a < length (graph w.edges.items).capacities = omega (arith, caps, within) in
      let flow = push_law.flow (graph w.edges.items) w.flows.items a step.flow sound.flow (fits_arc (graph w.edges.items) w.flows.items a d along step sound.flow in' is) in
      let slack = push_law.slack (graph w.edges.items) w.flows.items w.prices.items a step.flow sound.slack even in
      let moved_flow = moves (graph w.edges.items) w.flows.items a d along step sound.flow in' (sound.among.apart a within) is in
      let there = push_law.excess (network_of g.obligations.spends w.edges.items) w.flows.items (set w.flows.items a step.flow) step.from step.to d moved_flow in
      record {
        sound = record {
          among = rw (each, edges) sound.among;
          flow = rw (edges, flows) flow;
          slack = rw (edges, flows, prices) slack;
          price_each = rw (each, prices) sound.price_each;
          few = rw prices sound.few;
          near = rw prices sound.near;
          small = λ u lt. small_after w.excess.items v.excess.items step d u few fit moved sound.small (omega (arith, each));
        };
        network = rw edges state.network;
        counts = rw edges state.counts;
        among = state.among;
        node_each = each ∙ state.node_each;
        balanced = λ u lt.
            let was = state.balanced u (omega (arith, each)) in
            rw (edges, flows) (both_moved (price_at w.excess.items) (price_at v.excess.items) (excess_at (network_of g.obligations.spends w.edges.items) w.flows.items) (excess_at (network_of g.obligations.spends w.edges.items) (set w.flows.items a step.flow)) step.from step.to d u moved there was);
      }

  pub stepped : IsNoWorse w v
  stepped = record {
    state = kept;
    surplus =
        let rise = surplus_law.no_rise (length w.excess.items) step.from step.to d (price_at w.excess.items) (price_at v.excess.items) fit.from fit.to fit.apart fit.level moved in
        let same : sum_below (length v.excess.items) (λ u. above_zero (price_at v.excess.items u)) ≡ sum_below (length w.excess.items) (λ u. above_zero (price_at v.excess.items u)) = ap (λ n. sum_below n (λ u. above_zero (price_at v.excess.items u))) each in
        omega (arith, rise, same);
  }

pub worse_never : (u v w : State) → IsNoWorse u v → IsNoWorse v w → IsNoWorse u w
worse_never u v w one two = record {
  state = λ g is. two.state g (one.state g is);
  surplus = let a = one.surplus in let b = two.surplus in omega (arith, a, b);
}

-- one push more
pub carried_more : (none : Push) (u v w : State) (pushes : List Push) (m : ℕ) → AreCarried none u pushes m v → IsCarried v (slice_index_or pushes m none) w → AreCarried none u pushes (m + 1) w
carried_more none u v w pushes m before last =
    let next : AreCarried none u pushes (suc m) w = (v, before, last) in
    let e : suc m ≡ m + 1 = omega arith in
    subst (λ (k : ℕ). AreCarried none u pushes k w) e next
