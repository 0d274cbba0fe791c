-- The solver's steps, at its state.
use Rattle.std.specs.Prelude.{slice_index, unsigned_abs, Bool, true, false, ℤ, pos, ◌≤ℤ◌, ◌<ℤ◌}
use Rattle.std.proofs.Common.{◌≡◌, ℕ, ◌+◌, ◌<◌, List, length, sym, ◌∙◌, ap, subst, inl, inr, arith, length-append}
use Rattle.std.proofs.lemmas.Bool.{cases_eq}
use Rattle.std.proofs.lemmas.Int.{ints}
use Rattle.std.proofs.lemmas.List.{length-map, get_or-set_other}
use Rattle.setoff_model.specs.Setoff.{price_at}
use Rattle.setoff_model.specs.declared.limits.TheConstants.{MOST_WEIGHT}
use Rattle.setoff_model.specs.Squeezing.{IsSqueezedTo}
use Rattle.residual_network.specs.Network.{arc_gain, ArcSlack, AreArcsAmong}
use Rattle.residual_network.specs.Labels.{mark, one_if, IsRaised, IsBelowRaises}
use Rattle.residual_network.specs.Steps.{LeadsOut}
use Rattle.residual_network.proofs.Gains.{raise_law, squeezing_law}
use Rattle.residual_state.specs.declared.crossing.Crossing.{Crossing}
use Rattle.residual_network.specs.declared.edge.Edge.{Edge}
use Rattle.residual_state.specs.declared.label.Label.{Label}
use Rattle.residual_state.specs.declared.label.Labels.{Labels}
use Rattle.residual_state.specs.declared.state.State.{State}
use Rattle.residual_state.specs.Crossings.{IsCrossing}
use Rattle.residual_state.specs.Edges.{AreAmong, tails, heads, capacities, graph}
use Rattle.residual_state.specs.Labels.{nodes, IsLabelled, IsUnmet, IsWanting, unlabelled}
use Rattle.residual_state.specs.States.{IsSound, StaysOn, IsSearchOf, IsRepriced, IsGrown}
use Rattle.residual_state.proofs.Pushed.{pushed_last}
use Rattle.residual_state.proofs.Growing.{grown, grown_fewer}

-- a crossing, where its lists are named otherwise
pub crossing_of : (es es' : List Edge) (xs xs' : List ℕ) (ls ls' : List Bool) (a : ℕ) (s : Crossing) → es ≡ es' → xs ≡ xs' → ls ≡ ls' → IsCrossing (graph es) xs ls a s → IsCrossing (graph es') xs' ls' a s
crossing_of es es' xs xs' ls ls' a s ee ex el is = rw (← ee, ← ex, ← el) is

module _ (w : State) (old new : Labels) (a : ℕ) (s : Crossing) (is : IsSearchOf w old) (step : IsCrossing (graph w.edges.items) w.flows.items old.labelled.items a s)
    (within : a < length w.edges.items) (even : arc_gain (graph w.edges.items) w.prices.items a ≡ pos 0) (put : IsLabelled old a s new) where
  in_caps : a < length (graph w.edges.items).capacities
  in_caps = omega (arith, within, length-map w.edges.items (λ (e : Edge). e.capacity))

  pub far_search : IsSearchOf w new
  far_search = grown (graph w.edges.items) w.flows.items w.prices.items w.excess.items old new a s is step in_caps even put

  pub far_fewer : unlabelled new.labelled.items + 1 ≡ unlabelled old.labelled.items
  far_fewer = grown_fewer (graph w.edges.items) w.flows.items w.prices.items w.excess.items old new a s is step in_caps even put

  more_found : length new.found.items ≡ length old.found.items + 1
  more_found = ap length put.found ∙ length-append old.found.items _

  pub far_grown : IsGrown old new
  far_grown = record { found = omega (arith, more_found); fewer = omega (arith, far_fewer) }

  pub far_wanting : (k : ℕ) → k ≡ length old.found.items → price_at w.excess.items s.to <ℤ pos 0 → IsWanting w.excess.items new k
  far_wanting k e low =
      let node : slice_index (nodes new.found.items) k ≡ s.to = ap (λ (f : List Label). slice_index (nodes f) k) put.found ∙ pushed_last (λ (x : Label). x.node) old.found.items _ k e in
      let at = ap (price_at w.excess.items) node in
      record {
        within = omega (arith, more_found, e);
        wants = omega (arith, ints, at, low);
      }

  pub far_unmet : IsUnmet w.excess.items old → pos 0 ≤ℤ price_at w.excess.items s.to → IsUnmet w.excess.items new
  far_unmet unmet here v marked =
      elim (cases_eq v s.to) as (λ _. pos 0 ≤ℤ price_at w.excess.items v) [
        | inl same ↦ subst (λ (k : ℕ). pos 0 ≤ℤ price_at w.excess.items k) (sym same) here
        | inr ne ↦
            let other = ap one_if (get_or-set_other old.labelled.items s.to v true false ne) in
            let put_mark = ap (λ (l : List Bool). mark l v) put.labelled in
            unmet v (sym other ∙ sym put_mark ∙ marked)
      ]

-- ---- raised and squeezed prices

pub gain_low : (g : ℤ) → (pos 0 <ℤ g → ⊥) → g ≤ℤ pos 0
gain_low g not = grind (arith, ints)

pub gain_high : (g : ℤ) → (g <ℤ pos 0 → ⊥) → pos 0 ≤ℤ g
gain_high g not = grind (arith, ints)

-- the arcs are among as many nodes, by columns
pub arcs_among : (edges : List Edge) (n : ℕ) → AreAmong n edges → AreArcsAmong n (graph edges)
arcs_among edges n among =
    let caps : length (capacities edges) ≡ length edges = length-map edges (λ (x : Edge). x.capacity) in
    record {
      tail = λ a lt. among.tail a (omega (arith, caps));
      head = λ a lt. among.head a (omega (arith, caps));
      apart = λ a lt. among.apart a (omega (arith, caps));
      reward = λ a lt. among.reward a (omega (arith, caps));
    }

module _ (w : State) (q r : List ℤ) (labelled : List Bool) (d : ℕ) (sound : IsSound w) (each : length labelled ≡ length w.excess.items) (raised : IsRaised w.prices.items q labelled d) (squeezed : IsSqueezedTo MOST_WEIGHT q r) where
  marked : AreArcsAmong (length labelled) (graph w.edges.items)
  marked = rw each (arcs_among w.edges.items (length w.excess.items) sound.among)

  pub slack_kept : IsBelowRaises (graph w.edges.items) w.flows.items w.prices.items labelled d → ArcSlack (graph w.edges.items) w.flows.items r
  slack_kept least =
      let one = raise_law.slack (graph w.edges.items) w.flows.items w.prices.items q labelled d marked sound.flow sound.slack raised least in
      squeezing_law.slack (graph w.edges.items) w.flows.items q r (length labelled) marked squeezed one

  -- a gain of 0 among labelled nodes stays 0
  pub even_kept : (a : ℕ) → a < length w.edges.items → mark labelled (slice_index (tails w.edges.items) a) ≡ mark labelled (slice_index (heads w.edges.items) a) → arc_gain (graph w.edges.items) w.prices.items a ≡ pos 0 → arc_gain (graph w.edges.items) r a ≡ pos 0
  even_kept a lt same even =
      let in' : a < length (capacities w.edges.items) = omega (arith, length-map w.edges.items (λ (x : Edge). x.capacity)) in
      squeezing_law.even (graph w.edges.items) q r (length labelled) a marked squeezed in' (raise_law.inside (graph w.edges.items) w.prices.items q labelled d a marked raised in' same ∙ even)

  -- an arc that asks for the raise has gain 0 after it
  pub even_out : (a : ℕ) → a < length w.edges.items → LeadsOut (graph w.edges.items) w.flows.items labelled a → d ≡ unsigned_abs (arc_gain (graph w.edges.items) w.prices.items a) → arc_gain (graph w.edges.items) r a ≡ pos 0
  even_out a lt leads asked =
      let in' : a < length (capacities w.edges.items) = omega (arith, length-map w.edges.items (λ (x : Edge). x.capacity)) in
      squeezing_law.even (graph w.edges.items) q r (length labelled) a marked squeezed in'
      (elim leads as (λ _. arc_gain (graph w.edges.items) q a ≡ pos 0) [
        | inl l ↦
            let e = raise_law.out (graph w.edges.items) w.prices.items q labelled d a marked raised in' l.0 l.1 in
            let low : arc_gain (graph w.edges.items) w.prices.items a ≤ℤ pos 0 = not_full a in' l.2 in
            omega (arith, ints, e, low, asked)
        | inr l ↦
            let e = raise_law.into (graph w.edges.items) w.prices.items q labelled d a marked raised in' l.0 l.1 in
            let high : pos 0 ≤ℤ arc_gain (graph w.edges.items) w.prices.items a = not_empty a in' l.2 in
            omega (arith, ints, e, high, asked)
      ])
    where
      not_full : (a : ℕ) → a < length (capacities w.edges.items) → slice_index w.flows.items a < slice_index (capacities w.edges.items) a → arc_gain (graph w.edges.items) w.prices.items a ≤ℤ pos 0
      not_full a in' lt = gain_low (arc_gain (graph w.edges.items) w.prices.items a) (λ h. let e = sound.slack.full a in' h in omega (arith, e, lt))

      not_empty : (a : ℕ) → a < length (capacities w.edges.items) → 0 < slice_index w.flows.items a → pos 0 ≤ℤ arc_gain (graph w.edges.items) w.prices.items a
      not_empty a in' lt = gain_high (arc_gain (graph w.edges.items) w.prices.items a) (λ h. let e = sound.slack.empty a in' h in omega (arith, e, lt))

-- where nothing but prices is changed, and the state is sound, it stays on its networks
pub stays_repriced : (w v : State) → IsRepriced w v → IsSound v → StaysOn w v
stays_repriced w v repriced sound g state = record {
  sound = sound;
  network = rw repriced.edges state.network;
  counts = rw repriced.edges state.counts;
  among = state.among;
  node_each = rw repriced.excess state.node_each;
  balanced = rw (repriced.edges, repriced.flows, repriced.excess) state.balanced;
}
