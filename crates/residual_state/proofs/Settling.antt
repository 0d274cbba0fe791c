-- Excess moved along labels.
use Rattle.std.specs.Prelude.{slice_index, ℤ, pos, ◌+ℤ◌, ◌≤ℤ◌, unsigned_abs}
use Rattle.std.proofs.Common.{◌≡◌, ◌≢◌, ℕ, ◌<◌, ◌≤◌, ◌^◌, List, length, sym, ◌∙◌, ap, subst, inl, inr, arith}
use Rattle.std.proofs.lemmas.Bool.{cases_eq}
use Rattle.std.proofs.lemmas.Int.{ints}
use Rattle.setoff_model.specs.Sums.{sum_below, above_zero}
use Rattle.setoff_model.specs.Setoff.{price_at}
use Rattle.residual_network.specs.Network.{arc_gain, IsFlow, ArcSlack, IsMoved, excess_at}
use Rattle.residual_network.proofs.Pushes.{push_law, surplus_law}
use Rattle.residual_network.specs.declared.edge.Edge.{Edge}
use Rattle.residual_state.specs.declared.label.Label.{Label}
use Rattle.residual_state.specs.declared.state.State.{State}
use Rattle.residual_state.specs.Edges.{AreAmong, network_of, graph}
use Rattle.residual_state.specs.Labels.{nodes, backs, rooms, AreEven, HasRoots}
use Rattle.residual_state.specs.Pushes.{IsPushed}
use Rattle.residual_state.specs.States.{IsSound, StaysOn, surplus}
use Rattle.residual_state.proofs.Pushing.{move_of_shift}

-- flow that changed only on arcs with gain 0 keeps the facts
slack_pushed : (edges : List Edge) (x y : List ℕ) (p : List ℤ) (found : List Label) (first amount k : ℕ) → ArcSlack (graph edges) x p → AreEven (graph edges) p found → IsPushed edges x found first amount y k → ArcSlack (graph edges) y p
slack_pushed edges x y p found first amount k slack even pushed = record {
  full = λ a in' high. elim (cases_eq (slice_index y a) (slice_index x a)) as (λ _. slice_index y a ≡ slice_index (graph edges).capacities a) [
    | inl same ↦ same ∙ slack.full a in' high
    | inr ne ↦ let g = zero a ne in absurd (omega (arith, ints, g, high))
  ];
  empty = λ a in' low. elim (cases_eq (slice_index y a) (slice_index x a)) as (λ _. slice_index y a ≡ 0) [
    | inl same ↦ same ∙ slack.empty a in' low
    | inr ne ↦ let g = zero a ne in absurd (omega (arith, ints, g, low))
  ];
}
  where
    zero : (a : ℕ) → slice_index y a ≢ slice_index x a → arc_gain (graph edges) p a ≡ pos 0
    zero a ne = let t = pushed.touched a ne in sym (ap (arc_gain (graph edges) p) t.3) ∙ even t.0 t.1 t.2

-- what both count is moved alike
pub both_moved : (e f : ℕ → ℤ) (g h : ℕ → ℤ) (s t d v : ℕ) → IsMoved e f s t d → IsMoved g h s t d → e v ≡ g v → f v ≡ h v
both_moved e f g h s t d v one two same =
    elim (cases_eq v s) as (λ _. f v ≡ h v) [
      | inl vs ↦
          let a = ap f vs ∙ one.from in let b = ap h vs ∙ two.from in let c = sym (ap e vs) ∙ same ∙ ap g vs in omega (arith, ints, a, b, c)
      | inr vs ↦ elim (cases_eq v t) as (λ _. f v ≡ h v) [
        | inl vt ↦
            let a = ap f vt ∙ one.to in let b = ap h vt ∙ two.to in let c = sym (ap e vt) ∙ same ∙ ap g vt in omega (arith, ints, a, b, c)
        | inr vt ↦ one.others v vs vt ∙ same ∙ sym (two.others v vs vt)
      ]
    ]

-- numbers that are moved to where they are wanted stay small
moved_small : (e f : List ℤ) (s t d v : ℕ) → IsMoved (price_at e) (price_at f) s t d → pos d ≤ℤ price_at e s → (price_at e t +ℤ pos d) ≤ℤ pos 0 → ((u : ℕ) → u < length e → unsigned_abs (price_at e u) ≤ 2 ^ 100) → v < length e → unsigned_abs (price_at f v) ≤ 2 ^ 100
moved_small e f s t d v moved held wanted small lt =
    elim (cases_eq v s) as (λ _. unsigned_abs (price_at f v) ≤ 2 ^ 100) [
      | inl vs ↦ let a = ap (price_at f) vs ∙ moved.from in let b = ap (price_at e) vs in let c = small v lt in omega (arith, ints, a, b, c, held)
      | inr vs ↦ elim (cases_eq v t) as (λ _. unsigned_abs (price_at f v) ≤ 2 ^ 100) [
        | inl vt ↦ let a = ap (price_at f) vt ∙ moved.to in let b = ap (price_at e) vt in let c = small v lt in omega (arith, ints, a, b, c, wanted)
        | inr vt ↦ let a = moved.others v vs vt in let c = small v lt in omega (arith, ints, a, c)
      ]
    ]

module _ (w v : State) (found : List Label) (place amount k : ℕ) (sound : IsSound w) (even : AreEven (graph w.edges.items) w.prices.items found) (roots : HasRoots w.excess.items found)
    (edges : v.edges.items ≡ w.edges.items) (prices : v.prices.items ≡ w.prices.items) (within : place < length found)
    (pushed : IsPushed w.edges.items w.flows.items found place amount v.flows.items k) (own : slice_index (backs found) k ≡ k)
    (each : length v.excess.items ≡ length w.excess.items)
    (moved : IsMoved (price_at w.excess.items) (price_at v.excess.items) (slice_index (nodes found) k) (slice_index (nodes found) place) amount)
    (wanted : (price_at w.excess.items (slice_index (nodes found) place) +ℤ pos amount) ≤ℤ pos 0) (some : 0 < amount) where
  held : pos amount ≤ℤ price_at w.excess.items (slice_index (nodes found) k)
  held = let h = roots.held k pushed.within own in let r = pushed.room in omega (arith, ints, h, r)

  apart : slice_index (nodes found) k ≢ slice_index (nodes found) place
  apart same = let e = ap (price_at w.excess.items) same in let h = held in omega (arith, ints, e, h, wanted, some)

  sound_same : AreAmong (length v.excess.items) w.edges.items × IsFlow (graph w.edges.items) v.flows.items × ArcSlack (graph w.edges.items) v.flows.items w.prices.items
  sound_same = (rw each sound.among, pushed.flow, slack_pushed w.edges.items w.flows.items v.flows.items w.prices.items found place amount k sound.slack even pushed)

  sound_settled : IsSound v
  sound_settled = record {
    among = rw edges sound_same.0;
    flow = rw edges sound_same.1;
    slack = rw (edges, prices) sound_same.2;
    price_each = rw (each, prices) sound.price_each;
    few = rw prices sound.few;
    near = rw prices sound.near;
    small = λ u lt. moved_small w.excess.items v.excess.items _ _ amount u moved held wanted sound.small (omega (arith, each));
  }

  pub settled : StaysOn w v
  settled g state =
      let flows = push_law.excess (network_of g.obligations.spends w.edges.items) w.flows.items v.flows.items _ _ amount (move_of_shift _ _ _ _ amount apart pushed.shifted) in
      record {
        sound = sound_settled;
        network = rw edges state.network;
        counts = rw edges state.counts;
        among = state.among;
        node_each = each ∙ state.node_each;
        balanced = λ u lt. subst (λ (es : List Edge). price_at v.excess.items u ≡ excess_at (network_of g.obligations.spends es) v.flows.items u) (sym edges)
            (both_moved (price_at w.excess.items) (price_at v.excess.items) (excess_at (network_of g.obligations.spends w.edges.items) w.flows.items) (excess_at (network_of g.obligations.spends w.edges.items) v.flows.items) _ _ amount u moved flows (state.balanced u (omega (arith, each))));
      }

-- the surplus falls
pub settled_falls : (e f : List ℤ) (found : List Label) (place amount k : ℕ) → HasRoots e found → place < length found → k < length found → amount ≤ slice_index (rooms found) k → slice_index (backs found) k ≡ k → length f ≡ length e →
    IsMoved (price_at e) (price_at f) (slice_index (nodes found) k) (slice_index (nodes found) place) amount → (price_at e (slice_index (nodes found) place) +ℤ pos amount) ≤ℤ pos 0 → 0 < amount → surplus f < surplus e
settled_falls e f found place amount k roots in' first room own each moved wanted some =
    let h = roots.held k first own in
    let held : pos amount ≤ℤ price_at e (slice_index (nodes found) k) = omega (arith, ints, h, room) in
    let apart : slice_index (nodes found) k ≢ slice_index (nodes found) place = λ same. let at = ap (price_at e) same in absurd (omega (arith, ints, at, held, wanted, some)) in
    let falls = surplus_law.falls (length e) (slice_index (nodes found) k) (slice_index (nodes found) place) amount (price_at e) (price_at f) (roots.node k first) (roots.node place in') apart held wanted moved in
    let same : sum_below (length f) (λ u. above_zero (price_at f u)) ≡ sum_below (length e) (λ u. above_zero (price_at f u)) = ap (λ n. sum_below n (λ u. above_zero (price_at f u))) each in
    omega (arith, falls, same, some)

-- the same facts, where their parts are named otherwise
pub pushed_of : (es es' : List Edge) (xs xs' ys ys' : List ℕ) (found : List Label) (first amount k : ℕ) → es ≡ es' → xs ≡ xs' → ys ≡ ys' → IsPushed es xs found first amount ys k → IsPushed es' xs' found first amount ys' k
pushed_of es es' xs xs' ys ys' found first amount k ee ex ey is = rw (← ee, ← ex, ← ey) is

pub moved_of : (e e' f f' : List ℤ) (s s' t t' d : ℕ) → e ≡ e' → f ≡ f' → s ≡ s' → t ≡ t' → IsMoved (price_at e) (price_at f) s t d → IsMoved (price_at e') (price_at f') s' t' d
moved_of e e' f f' s s' t t' d ee ef es et is = rw (← ee, ← ef, ← es, ← et) is

pub wanted_of : (e e' : List ℤ) (t t' d w : ℕ) → e ≡ e' → t ≡ t' → d ≤ w → (price_at e t +ℤ pos w) ≤ℤ pos 0 → (price_at e' t' +ℤ pos d) ≤ℤ pos 0
wanted_of e e' t t' d w ee et le is =
    let at : price_at e t ≡ price_at e' t' = ap (λ (l : List ℤ). price_at l t) ee ∙ ap (price_at e') et in
    omega (arith, ints, at, le, is)
