-- Excesses at the beginning.
use Rattle.std.specs.Prelude.{slice_index, if◌then◌else◌, ◌==◌, ℤ, pos, ◌+ℤ◌, ◌-ℤ◌, neg_ℤ, unsigned_abs}
use Rattle.std.proofs.Common.{◌≡◌, ℕ, suc, ◌+◌, ◌*◌, ◌<◌, ◌≤◌, ◌^◌, List, length, get_or, refl, sym, ◌∙◌, ap, subst, inl, inr, arith}
use Rattle.std.proofs.lemmas.Bool.{cases_eq}
use Rattle.std.proofs.lemmas.Int.{ints}
use Rattle.std.proofs.lemmas.List.{get_or-map}
use Rattle.setoff_model.specs.Setoff.{price_at, flow_at}
use Rattle.setoff_model.proofs.SumsBounded.{sum_below-most}
use Rattle.residual_network.specs.declared.edge.Edge.{Edge}
use Rattle.residual_state.specs.Edges.{tails, heads, capacities}
use Rattle.setoff_model.proofs.Sums.{choose_yes, choose_no}
use Rattle.residual_state.specs.Starts.{IsChanged, IsDifference, AreInRange}
use Rattle.residual_state.proofs.Networks.{no_edge}

chosen_most : (a b x u : ℕ) → x ≤ u → (if a == b then x else 0) ≤ u
chosen_most a b x u le =
    elim (cases_eq a b) as (λ _. (if a == b then x else 0) ≤ u) [ inl e ↦ omega (arith, choose_yes a b x e) | inr ne ↦ omega (arith, choose_no a b x ne) ]

flow_most : (m u : ℕ) (places x : List ℕ) (v : ℕ) → ((k : ℕ) → k < m → slice_index x k ≤ u) → flow_at m places x v ≤ m * u
flow_most m u places x v le = sum_below-most m u (λ c. if slice_index places c == v then slice_index x c else 0) (λ k lt. chosen_most (slice_index places k) v (slice_index x k) u (le k lt))

-- differences of sums of so few amounts are small
pub difference_small : (n m : ℕ) (arcs : List Edge) (e : List ℤ) (v : ℕ) → AreInRange n arcs → m ≤ length arcs → length arcs ≤ 262144 → v < length e → IsDifference arcs e m → unsigned_abs (price_at e v) ≤ 2 ^ 90
difference_small n m arcs e v are le few lt is =
    let i = flow_most m 262143999999737856 (heads arcs) (capacities arcs) v (λ k l. are.limit k (omega arith)) in
    let o = flow_most m 262143999999737856 (tails arcs) (capacities arcs) v (λ k l. are.limit k (omega arith)) in
    omega (arith, ints, is v lt, i, o)

-- the change at each node
changed : (e f : List ℤ) (node : ℕ) (x : ℕ) (v : ℕ) → IsChanged e f node (pos x) → price_at f v ≡ price_at e v +ℤ pos (if node == v then x else 0)
changed e f node x v is =
    elim (cases_eq node v) as (λ _. price_at f v ≡ price_at e v +ℤ pos (if node == v then x else 0)) [
      | inl same ↦ subst (λ (k : ℕ). price_at f k ≡ price_at e k +ℤ pos (if node == k then x else 0)) same (let y = choose_yes node node x refl in omega (arith, ints, y, is.here))
      | inr ne ↦ let y = choose_no node v x ne in let k = is.others v (λ s. ne (sym s)) in omega (arith, ints, y, k)
    ]

changed_down : (e f : List ℤ) (node : ℕ) (x : ℕ) (v : ℕ) → IsChanged e f node (neg_ℤ (pos x)) → price_at f v ≡ price_at e v -ℤ pos (if node == v then x else 0)
changed_down e f node x v is =
    elim (cases_eq node v) as (λ _. price_at f v ≡ price_at e v -ℤ pos (if node == v then x else 0)) [
      | inl same ↦ subst (λ (k : ℕ). price_at f k ≡ price_at e k -ℤ pos (if node == k then x else 0)) same (let y = choose_yes node node x refl in omega (arith, ints, y, is.here))
      | inr ne ↦ let y = choose_no node v x ne in let k = is.others v (λ s. ne (sym s)) in omega (arith, ints, y, k)
    ]

-- one arc more
pub difference_more : (arcs : List Edge) (e f g : List ℤ) (m d c x : ℕ) → IsDifference arcs e m → slice_index (tails arcs) m ≡ d → slice_index (heads arcs) m ≡ c → slice_index (capacities arcs) m ≡ x →
    IsChanged e f d (neg_ℤ (pos x)) → IsChanged f g c (pos x) → IsDifference arcs g (m + 1)
difference_more arcs e f g m d c x is ed ec ex down up v lt =
    let was = is v (omega (arith, lt, down.one_each, up.one_each)) in
    let one = changed_down e f d x v down in
    let two = changed f g c x v up in
    let nd : (if slice_index (tails arcs) m == v then slice_index (capacities arcs) m else 0) ≡ (if d == v then x else 0) = rw (ed, ex) refl in
    let nc : (if slice_index (heads arcs) m == v then slice_index (capacities arcs) m else 0) ≡ (if c == v then x else 0) = rw (ec, ex) refl in
    let fd : flow_at (m + 1) (tails arcs) (capacities arcs) v ≡ flow_at m (tails arcs) (capacities arcs) v + (if slice_index (tails arcs) m == v then slice_index (capacities arcs) m else 0) = flow_more m (tails arcs) (capacities arcs) v in
    let fc : flow_at (m + 1) (heads arcs) (capacities arcs) v ≡ flow_at m (heads arcs) (capacities arcs) v + (if slice_index (heads arcs) m == v then slice_index (capacities arcs) m else 0) = flow_more m (heads arcs) (capacities arcs) v in
    omega (arith, ints, was, one, two, nd, nc, fd, fc)
  where
    flow_more : (m : ℕ) (places x : List ℕ) (v : ℕ) → flow_at (m + 1) places x v ≡ flow_at m places x v + (if slice_index places m == v then slice_index x m else 0)
    flow_more m places x v = ap (λ k. flow_at k places x v) (let s : m + 1 ≡ suc m = omega arith in s)

pub changed_small : (e f : List ℤ) (node v : ℕ) (by : ℤ) → IsChanged e f node by → unsigned_abs by ≤ 2 ^ 64 → unsigned_abs (price_at e v) ≤ 2 ^ 90 → unsigned_abs (price_at f v) ≤ 2 ^ 100
changed_small e f node v by is small old =
    elim (cases_eq v node) as (λ _. unsigned_abs (price_at f v) ≤ 2 ^ 100) [
      | inl same ↦
          let one = ap (price_at f) same ∙ is.here in
          let two = ap (price_at e) same in
          omega (arith, ints, one, two, small, old)
      | inr ne ↦ let k = is.others v ne in omega (arith, ints, k, old)
    ]

pub tail_is : (edges : List Edge) (i : ℕ) → i < length edges → slice_index (tails edges) i ≡ (get_or edges i no_edge).tail
tail_is edges i lt = get_or-map (λ (e : Edge). e.tail) edges i no_edge 0 lt

pub head_is : (edges : List Edge) (i : ℕ) → i < length edges → slice_index (heads edges) i ≡ (get_or edges i no_edge).head
head_is edges i lt = get_or-map (λ (e : Edge). e.head) edges i no_edge 0 lt

pub capacity_is : (edges : List Edge) (i : ℕ) → i < length edges → slice_index (capacities edges) i ≡ (get_or edges i no_edge).capacity
capacity_is edges i lt = get_or-map (λ (e : Edge). e.capacity) edges i no_edge 0 lt

-- the same, where the two changes are named otherwise
pub difference_more_by : (arcs : List Edge) (e f g : List ℤ) (m d c x : ℕ) (down up : ℤ) → down ≡ neg_ℤ (pos x) → up ≡ pos x → IsDifference arcs e m → slice_index (tails arcs) m ≡ d → slice_index (heads arcs) m ≡ c → slice_index (capacities arcs) m ≡ x →
    IsChanged e f d down → IsChanged f g c up → IsDifference arcs g (m + 1)
difference_more_by arcs e f g m d c x down up ed eu is a b z one two =
    difference_more arcs e f g m d c x is a b z (subst (IsChanged e f d) ed one) (subst (IsChanged f g c) eu two)
