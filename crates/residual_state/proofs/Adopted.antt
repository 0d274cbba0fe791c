-- A whole solution in place of a state's flows and prices.
use Rattle.std.specs.Prelude.{slice_index, if◌then◌else◌, ◌==◌, ℤ, pos, ◌+ℤ◌, ◌-ℤ◌, ◌≤ℤ◌, unsigned_abs}
use Rattle.std.proofs.Common.{◌≡◌, ℕ, suc, ◌+◌, ◌<◌, ◌≤◌, ◌^◌, List, length, refl, sym, ◌∙◌, ap, subst, inl, inr, arith}
use Rattle.std.proofs.lemmas.Bool.{cases_eq}
use Rattle.std.proofs.lemmas.Int.{ints}
use Rattle.std.proofs.lemmas.List.{length-map}
use Rattle.setoff_model.specs.Sums.{above_zero}
use Rattle.setoff_model.specs.Setoff.{price_at, flow_at}
use Rattle.setoff_model.proofs.Sums.{choose_yes, choose_no}
use Rattle.setoff_model.proofs.Circulation.{sum_below-none}
use Rattle.residual_network.specs.Network.{excess_at}
use Rattle.residual_network.specs.declared.edge.Edge.{Edge}
use Rattle.residual_state.specs.declared.state.State.{State}
use Rattle.residual_state.specs.Adoptions.{CanAdopt, IsRebalanced}
use Rattle.residual_state.specs.Carries.{IsNoWorse}
use Rattle.residual_state.specs.Edges.{network_of, tails, heads, capacities}
use Rattle.residual_state.specs.Starts.{IsChanged}
use Rattle.residual_state.specs.States.{StaysOn, surplus}

-- what changes at each node, where x makes way for y at one
replaced : (e f : List ℤ) (node x y v : ℕ) (by : ℤ) → by ≡ (pos y -ℤ pos x) → IsChanged e f node by →
    (price_at f v +ℤ pos (if node == v then x else 0)) ≡ (price_at e v +ℤ pos (if node == v then y else 0))
replaced e f node x y v by eq is =
    elim (cases_eq node v) as (λ _. (price_at f v +ℤ pos (if node == v then x else 0)) ≡ (price_at e v +ℤ pos (if node == v then y else 0))) [
      | inl same ↦ subst (λ (k : ℕ). (price_at f k +ℤ pos (if node == k then x else 0)) ≡ (price_at e k +ℤ pos (if node == k then y else 0))) same
          (let a = choose_yes node node x refl in let b = choose_yes node node y refl in let h = is.here in omega (arith, ints, a, b, h, eq))
      | inr ne ↦ let a = choose_no node v x ne in let b = choose_no node v y ne in let k = is.others v (λ s. ne (sym s)) in omega (arith, ints, a, b, k)
    ]

flow_more : (m : ℕ) (places x : List ℕ) (v : ℕ) → flow_at (m + 1) places x v ≡ flow_at m places x v + (if slice_index places m == v then slice_index x m else 0)
flow_more m places x v = ap (λ k. flow_at k places x v) (let s : m + 1 ≡ suc m = omega arith in s)

-- one arc more
pub rebalanced_more : (edges : List Edge) (x y : List ℕ) (e f g h : List ℤ) (m t c a b : ℕ) (down up : ℤ) → down ≡ (pos a -ℤ pos b) → up ≡ (pos b -ℤ pos a) → IsRebalanced edges x y e f m →
    slice_index (tails edges) m ≡ t → slice_index (heads edges) m ≡ c → slice_index x m ≡ a → slice_index y m ≡ b → IsChanged f g t down → IsChanged g h c up → IsRebalanced edges x y e h (m + 1)
rebalanced_more edges x y e f g h m t c a b down up eq_down eq_up is et ec ea eb one two = record {
  one_each = two.one_each ∙ one.one_each ∙ is.one_each;
  moved = λ v lt.
      let was = is.moved v lt in
      let first = replaced f g t b a v down eq_down one in
      let second = replaced g h c a b v up eq_up two in
      let hx : flow_at (m + 1) (heads edges) x v ≡ flow_at m (heads edges) x v + (if c == v then a else 0) = flow_more m (heads edges) x v ∙ rw (ec, ea) refl in
      let hy : flow_at (m + 1) (heads edges) y v ≡ flow_at m (heads edges) y v + (if c == v then b else 0) = flow_more m (heads edges) y v ∙ rw (ec, eb) refl in
      let tx : flow_at (m + 1) (tails edges) x v ≡ flow_at m (tails edges) x v + (if t == v then a else 0) = flow_more m (tails edges) x v ∙ rw (et, ea) refl in
      let ty : flow_at (m + 1) (tails edges) y v ≡ flow_at m (tails edges) y v + (if t == v then b else 0) = flow_more m (tails edges) y v ∙ rw (et, eb) refl in
      omega (arith, ints, was, first, second, hx, hy, tx, ty);
}

-- a changed number is not much larger
pub changed_bound : (e f : List ℤ) (node v most : ℕ) (by : ℤ) → IsChanged e f node by → unsigned_abs by ≤ 2 ^ 64 → unsigned_abs (price_at e v) ≤ most → unsigned_abs (price_at f v) ≤ most + 2 ^ 64
changed_bound e f node v most by is few old =
    elim (cases_eq v node) as (λ _. unsigned_abs (price_at f v) ≤ most + 2 ^ 64) [
      | inl same ↦ let a = ap (price_at f) same ∙ is.here in let b = ap (price_at e) same in omega (arith, ints, a, b, few, old)
      | inr ne ↦ let k = is.others v ne in omega (arith, ints, k, old)
    ]

module _ (w v : State) (can : CanAdopt w v.flows.items v.prices.items) (edges : v.edges.items ≡ w.edges.items) (each : length v.excess.items ≡ length w.excess.items)
    (zero : (u : ℕ) → u < length v.excess.items → price_at v.excess.items u ≡ pos 0) where
  caps : length (capacities w.edges.items) ≡ length w.edges.items
  caps = length-map w.edges.items (λ (e : Edge). e.capacity)

  stays : StaysOn w v
  stays g state =
      let sound = state.sound in
      record {
        sound = record {
          among = rw (each, edges) sound.among;
          flow = rw edges (record { one_each = can.one_each ∙ sym caps; within = λ a lt. can.within a (omega (arith, caps, lt)) });
          slack = rw edges can.slack;
          price_each = omega (arith, each, sound.price_each, can.price_each);
          few = omega (arith, sound.few, can.price_each);
          near = can.near;
          small = λ u lt. let z = zero u lt in omega (arith, ints, z);
        };
        network = rw edges state.network;
        counts = rw edges state.counts;
        among = state.among;
        node_each = each ∙ state.node_each;
        balanced = λ u lt.
            let lt' : u < length w.excess.items = omega (arith, each, lt) in
            let z = zero u lt in
            let was = state.balanced u lt' in
            let rest = can.rest u lt' in
            let hx = ap (λ k. flow_at k (heads w.edges.items) w.flows.items u) caps in
            let tx = ap (λ k. flow_at k (tails w.edges.items) w.flows.items u) caps in
            let hy = ap (λ k. flow_at k (heads w.edges.items) v.flows.items u) caps in
            let ty = ap (λ k. flow_at k (tails w.edges.items) v.flows.items u) caps in
            let now : price_at v.excess.items u ≡ excess_at (network_of g.obligations.spends w.edges.items) v.flows.items u = omega (arith, ints, z, was, rest, hx, tx, hy, ty) in
            subst (λ (es : List Edge). price_at v.excess.items u ≡ excess_at (network_of g.obligations.spends es) v.flows.items u) (sym edges) now;
      }

  none : surplus v.excess.items ≡ 0
  none = sum_below-none (length v.excess.items) (λ u. above_zero (price_at v.excess.items u)) (λ u lt. ap above_zero (zero u lt))

  pub adopted : IsNoWorse w v
  adopted = record { state = stays; surplus = omega (arith, none) }

-- the same, where the parts of the new state are named otherwise
pub adopted_by : (w v : State) (y : List ℕ) (q f : List ℤ) → CanAdopt w y q → v.edges.items ≡ w.edges.items → v.flows.items ≡ y → v.prices.items ≡ q → v.excess.items ≡ f → length f ≡ length w.excess.items →
    ((u : ℕ) → u < length f → price_at f u ≡ pos 0) → IsNoWorse w v
adopted_by w v y q f can edges ey eq ef each zero =
    adopted w v (rw (ey, eq) can) edges (ap length ef ∙ each) (λ u lt. ap (λ (l : List ℤ). price_at l u) ef ∙ zero u (let e = ap length ef in omega (arith, e, lt)))

pub rest_by : (e f : List ℤ) → e ≡ f → ((u : ℕ) → u < length f → price_at f u ≡ pos 0) → (u : ℕ) → u < length e → price_at e u ≤ℤ pos 0
rest_by e f ef zero u lt =
    let z = ap (λ (l : List ℤ). price_at l u) ef ∙ zero u (let s = ap length ef in omega (arith, s, lt)) in omega (arith, ints, z)
