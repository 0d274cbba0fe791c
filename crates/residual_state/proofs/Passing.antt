-- A label passed after the least raise.
use Rattle.std.specs.Prelude.{slice_index, Bool, ℤ, pos, unsigned_abs}
use Rattle.std.proofs.Common.{◌≡◌, ℕ, ◌+◌, ◌<◌, ◌≤◌, ◌^◌, List, [], ◌∷◌, ◌++◌, length, sym, ◌∙◌, ap, inl, inr, arith, length-append}
use Rattle.std.proofs.lemmas.Bool.{cases_lt}
use Rattle.std.proofs.lemmas.Int.{ints}
use Rattle.std.proofs.lemmas.List.{length-map}
use Rattle.setoff_model.specs.Setoff.{Obligations, price_at}
use Rattle.setoff_model.specs.declared.limits.TheConstants.{MOST_WEIGHT, MOST_PRICE}
use Rattle.setoff_model.specs.Squeezing.{IsSqueezedTo, IsNear}
use Rattle.setoff_model.proofs.Circulation.{price_past}
use Rattle.residual_network.specs.Network.{arc_gain}
use Rattle.residual_network.specs.Labels.{mark, NoCandidate, IsRaised, IsBelowRaises}
use Rattle.residual_network.specs.Steps.{LeadsOut, IsLink}
use Rattle.residual_network.proofs.Cut.{raise_exists}
use Rattle.residual_network.specs.declared.edge.Edge.{Edge}
use Rattle.residual_state.specs.declared.label.Labels.{Labels}
use Rattle.residual_state.specs.declared.scan.Next.{Next}
use Rattle.residual_state.specs.declared.state.State.{State}
use Rattle.residual_state.specs.Crossings.{IsNext}
use Rattle.residual_state.specs.Edges.{AreAmong, tails, heads, capacities, network_of, graph}
use Rattle.residual_state.specs.Labels.{columns, nodes, arcs, backs, AreSearched, IsUnmet}
use Rattle.residual_state.specs.States.{IsSound, Weighed, IsStateOf, IsSearchOf, IsRepriced}
use Rattle.residual_state.proofs.Working.{gain_low, gain_high, even_kept, even_out}

-- the same facts, where their lists are named otherwise
pub next_of : (es es' : List Edge) (xs xs' : List ℕ) (ps ps' : List ℤ) (ls ls' : List Bool) (next : Next) → es ≡ es' → xs ≡ xs' → ps ≡ ps' → ls ≡ ls' → IsNext (graph es) xs ps ls (length es) next → IsNext (graph es') xs' ps' ls' (length es') next
next_of es es' xs xs' ps ps' ls ls' next ee ex ep el is = rw (← ee, ← ex, ← ep, ← el) is

pub none_of : (es es' : List Edge) (xs xs' : List ℕ) (ls ls' : List Bool) → es ≡ es' → xs ≡ xs' → ls ≡ ls' → ((a : ℕ) → a < length es → LeadsOut (graph es) xs ls a → ⊥) → (a : ℕ) → a < length es' → LeadsOut (graph es') xs' ls' a → ⊥
none_of es es' xs xs' ls ls' ee ex el is = rw (← ee, ← ex, ← el) is

price_small : (p : List ℤ) (f : ℕ) → IsNear MOST_PRICE p → unsigned_abs (price_at p f) ≤ MOST_PRICE
price_small p f near =
    elim (cases_lt f (length p)) as (λ _. unsigned_abs (price_at p f) ≤ MOST_PRICE) [
      | inl lt ↦ near f lt
      | inr past ↦ let z = price_past p f past in omega (arith, ints, z)
    ]

gain_small : (edges : List Edge) (p : List ℤ) (n a : ℕ) → AreAmong n edges → IsNear MOST_PRICE p → a < length edges → unsigned_abs (arc_gain (graph edges) p a) ≤ 294921
gain_small edges p n a among near lt =
    let t = price_small p (slice_index (tails edges) a) near in
    let h = price_small p (slice_index (heads edges) a) near in
    let r = among.reward a lt in
    omega (arith, ints, t, h, r)

module _ (w : State) (labelled : List Bool) (next : Next) (sound : IsSound w) (is : IsNext (graph w.edges.items) w.flows.items w.prices.items labelled (length w.edges.items) next) where
  pub raise_small : next.raise ≤ 2 ^ 32
  raise_small =
      let g = gain_small w.edges.items w.prices.items (length w.excess.items) next.arc sound.among sound.near is.within in
      omega (arith, g, is.asked)

  caps : length (capacities w.edges.items) ≡ length w.edges.items
  caps = length-map w.edges.items (λ (x : Edge). x.capacity)

  pub raise_least : IsBelowRaises (graph w.edges.items) w.flows.items w.prices.items labelled next.raise
  raise_least = record {
    out = λ a in' t h lt.
        let low = gain_low (arc_gain (graph w.edges.items) w.prices.items a) (λ g. let e = sound.slack.full a in' g in omega (arith, e, lt)) in
        let le = is.least a (omega (arith, in', caps)) (inl (t, h, lt)) in
        omega (arith, ints, low, le);
    into = λ a in' t h lt.
        let high = gain_high (arc_gain (graph w.edges.items) w.prices.items a) (λ g. let e = sound.slack.empty a in' g in omega (arith, e, lt)) in
        let le = is.least a (omega (arith, in', caps)) (inr (t, h, lt)) in
        omega (arith, ints, high, le);
  }

-- a search stays one at raised and squeezed prices
module _ (w v : State) (labels : Labels) (q : List ℤ) (d : ℕ) (sound : IsSound w) (is : IsSearchOf w labels) (raised : IsRaised w.prices.items q labels.labelled.items d) (squeezed : IsSqueezedTo MOST_WEIGHT q v.prices.items) (kept : IsRepriced w v) where
  link_even : (k : ℕ) → k < length labels.found.items → IsLink (graph w.edges.items) w.flows.items (columns labels.found.items) k → arc_gain (graph w.edges.items) w.prices.items (slice_index (arcs labels.found.items) k) ≡ pos 0 → arc_gain (graph w.edges.items) v.prices.items (slice_index (arcs labels.found.items) k) ≡ pos 0
  link_even k lt link even =
      let a = slice_index (arcs labels.found.items) k in
      let near = is.agree.marked (slice_index (backs labels.found.items) k) (omega (arith, lt, link.earlier)) in
      let far = is.agree.marked k lt in
      let marks : mark labels.labelled.items (slice_index (tails w.edges.items) (slice_index (arcs labels.found.items) k)) ≡ mark labels.labelled.items (slice_index (heads w.edges.items) (slice_index (arcs labels.found.items) k)) =
      elim link.passes as (λ _. mark labels.labelled.items (slice_index (tails w.edges.items) (slice_index (arcs labels.found.items) k)) ≡ mark labels.labelled.items (slice_index (heads w.edges.items) (slice_index (arcs labels.found.items) k))) [
        | inl p ↦ ap (mark labels.labelled.items) p.0 ∙ near ∙ sym far ∙ sym (ap (mark labels.labelled.items) p.1)
        | inr p ↦ ap (mark labels.labelled.items) p.1 ∙ far ∙ sym near ∙ sym (ap (mark labels.labelled.items) p.0)
      ] in
      even_kept w q v.prices.items labels.labelled.items d sound is.agree.mark_each raised squeezed a (omega (arith, link.arc, length-map w.edges.items (λ (x : Edge). x.capacity))) marks even

  same_work : AreSearched (graph w.edges.items) w.flows.items v.prices.items w.excess.items labels.found.items labels.labelled.items labels.places.items
  same_work = record {
    forest = is.forest;
    even = λ k lt later. elim (is.forest.each k lt) as (λ _. arc_gain (graph w.edges.items) v.prices.items (slice_index (arcs labels.found.items) k) ≡ pos 0) [
      | inl own ↦ absurd (omega (arith, own, later))
      | inr link ↦ link_even k lt link (is.even k lt later)
    ];
    roots = is.roots;
    agree = is.agree;
  }

  pub search_repriced : IsSearchOf v labels
  search_repriced = rw (kept.edges, kept.flows, kept.excess) same_work

  pub next_even : (next : Next) → IsNext (graph w.edges.items) w.flows.items w.prices.items labels.labelled.items (length w.edges.items) next → d ≡ next.raise → arc_gain (graph v.edges.items) v.prices.items next.arc ≡ pos 0
  next_even next step e =
      rw kept.edges (even_out w q v.prices.items labels.labelled.items d sound is.agree.mark_each raised squeezed next.arc step.within step.leads (e ∙ step.asked))

-- some arc leads out of the labelled nodes
pub leads_somewhere : (g : Weighed) (w : State) (labels : Labels) → IsStateOf g w → IsSearchOf w labels → IsUnmet w.excess.items labels → 0 < length labels.found.items → ((a : ℕ) → a < length w.edges.items → LeadsOut (graph w.edges.items) w.flows.items labels.labelled.items a → ⊥) → ⊥
leads_somewhere g w labels state is unmet some none =
    let o : Obligations = g.obligations in
    let first = slice_index (nodes labels.found.items) 0 in
    let own : slice_index (backs labels.found.items) 0 ≡ 0 = elim (is.forest.each 0 some) as (λ _. slice_index (backs labels.found.items) 0 ≡ 0) [ inl e ↦ e | inr l ↦ absurd (omega (arith, l.earlier)) ] in
    let room = is.roots.some 0 some in
    let held = is.roots.held 0 some own in
    let within = is.roots.node 0 some in
    let nodes_long : length (o.spends ++ 0 ∷ []) ≡ length o.spends + 1 = length-append o.spends (0 ∷ []) in
    let caps : length (capacities w.edges.items) ≡ length w.edges.items = length-map w.edges.items (λ (x : Edge). x.capacity) in
    let closed : NoCandidate (graph w.edges.items) w.flows.items labels.labelled.items = record {
      out = λ a in' t h. at_most _ _ (state.sound.flow.within a in') (λ lt. none a (omega (arith, in', caps)) (inl (t, h, lt)));
      into = λ a in' t h. at_least _ (λ lt. none a (omega (arith, in', caps)) (inr (t, h, lt)));
    } in
    let zero = raise_exists.none o (network_of o.spends w.edges.items) w.flows.items labels.labelled.items state.network (omega (arith, is.agree.mark_each, state.node_each, nodes_long)) closed
    (λ v lt mk. let b = state.balanced v (omega (arith, lt, nodes_long, state.node_each)) in let u = unmet v mk in omega (arith, ints, b, u))
    (slice_index (nodes labels.found.items) 0) (omega (arith, within, state.node_each, nodes_long)) (is.agree.marked 0 some) in
    let balance = state.balanced (slice_index (nodes labels.found.items) 0) within in
    omega (arith, ints, zero, balance, held, room)
  where
    at_most : (x u : ℕ) → x ≤ u → (x < u → ⊥) → x ≡ u
    at_most x u le not = elim (cases_lt x u) as (λ _. x ≡ u) [ inl lt ↦ absurd (not lt) | inr ge ↦ omega arith ]

    at_least : (x : ℕ) → (0 < x → ⊥) → x ≡ 0
    at_least x not = elim (cases_lt 0 x) as (λ _. x ≡ 0) [ inl lt ↦ absurd (not lt) | inr ge ↦ omega arith ]
