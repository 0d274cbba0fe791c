-- The network of obligations, and two flows on it.
use Rattle.std.specs.Prelude.{ℤ, pos, ◌<ℤ◌, slice_index, if◌then◌else◌, ◌==◌, sum, replicate}
use Rattle.std.proofs.Common.{◌≡◌, ◌≢◌, ℕ, ◌+◌, ◌<◌, ◌≤◌, List, length, ◌-◌, refl, sym, ◌∙◌, ap, subst, inl, inr, arith, length-append}
use Rattle.std.proofs.lemmas.Int.{ints}
use Rattle.std.proofs.lemmas.Bool.{cases_lt}
use Rattle.std.proofs.lemmas.Bool.Decides.{nat_tests}
use Rattle.std.proofs.lemmas.List.{length-replicate, get_or-replicate, get_or_append_left, get_or-append-add}
use Rattle.setoff_model.specs.declared.limits.TheConstants.{MOST_WEIGHT}
use Rattle.setoff_model.specs.Sums.{sum_below}
use Rattle.setoff_model.specs.Setoff.{Obligations, flow_at, price_at}
use Rattle.setoff_model.proofs.Circulation.{sum_below-same, sum_below-all, sum_below-none}
use Rattle.residual_network.specs.Network.{Arcs, Network, arc_gain, has, owes, IsFlow, ArcSlack, AtRest, AreArcsAmong}
use Rattle.residual_network.specs.NetworkOf.{IsNetworkOf, IsAmongParties, empty_flow, full_flow}
use Rattle.residual_network.specs.Laws.{NetworkLaw}
use Rattle.setoff_model.proofs.Sums.{sum_below-split, choose_yes, choose_no}
use Rattle.residual_network.proofs.Resting.{in_at, out_at}

-- ---- each arc is a claim's or a window's

-- what holds of each claim's arc and of each window's holds of each arc
pub by_kind : (m n : ℕ) (P : ℕ → Type 0) → ((c : ℕ) → c < m → P c) → ((f : ℕ) → f < n → P (m + f)) → (a : ℕ) → a < m + n → P a
by_kind m n P claims windows a in' =
    elim (cases_lt a m) as (λ _. P a) [
      | inl h ↦ claims a h
      | inr h ↦ let e : m + (a - m) ≡ a = omega (arith, h) in subst P e (windows (a - m) (omega (arith, in', h)))
    ]

pub are_among : (o : Obligations) (net : Network) → IsNetworkOf o net → IsAmongParties o → AreArcsAmong (length net.supplies) net.arcs
are_among o net is among = record {
  tail = λ a in'. by_kind (length o.amounts) (length o.spends) (λ k. slice_index net.arcs.tails k < length net.supplies)
      (λ c lt. let e = is.tail c lt in let i = among.debtor c lt in omega (arith, e, i, is.nodes))
      (λ f lt. let e = is.party f lt in omega (arith, e, lt, is.nodes)) a (omega (arith, is.arcs, in'));
  head = λ a in'. by_kind (length o.amounts) (length o.spends) (λ k. slice_index net.arcs.heads k < length net.supplies)
      (λ c lt. let e = is.head c lt in let i = among.creditor c lt in omega (arith, e, i, is.nodes))
      (λ f lt. let e = is.ground f lt in omega (arith, e, is.nodes)) a (omega (arith, is.arcs, in'));
  apart = λ a in'. by_kind (length o.amounts) (length o.spends) (λ k. slice_index net.arcs.tails k ≢ slice_index net.arcs.heads k)
      (λ c lt s. among.apart c lt (sym (is.tail c lt) ∙ s ∙ is.head c lt))
      (λ f lt s. let t = is.party f lt in let h = is.ground f lt in omega (arith, t, h, s, lt)) a (omega (arith, is.arcs, in'));
  reward = λ a in'. by_kind (length o.amounts) (length o.spends)
      (λ k. slice_index net.arcs.rewards k ≤ MOST_WEIGHT)
      is.counts (λ f lt. let z = is.free f lt in omega (arith, z)) a (omega (arith, is.arcs, in'));
}

-- ---- the flow of the empty set-off

pub empty_claim : (o : Obligations) (c : ℕ) → c < length o.amounts → slice_index (empty_flow o) c ≡ 0
empty_claim o c lt = get_or_append_left (replicate (length o.amounts) 0) o.spends 0 c
    (omega (arith, length-replicate {A = ℕ} (length o.amounts) 0)) ∙ get_or-replicate {A = ℕ} (length o.amounts) c 0 0 lt

pub empty_window : (o : Obligations) (f : ℕ) → slice_index (empty_flow o) (length o.amounts + f) ≡ slice_index o.spends f
empty_window o f =
    let long : length (replicate (length o.amounts) 0) ≡ length o.amounts = length-replicate {A = ℕ} (length o.amounts) 0 in
    ap (λ (k : ℕ). slice_index (empty_flow o) (k + f)) (sym long) ∙ get_or-append-add (replicate (length o.amounts) 0) o.spends f 0

pub empty_is_flow : (o : Obligations) (net : Network) → IsNetworkOf o net → IsFlow net.arcs (empty_flow o)
empty_is_flow o net is = record {
  one_each = let a = length-append (replicate (length o.amounts) 0) o.spends in
      let b = length-replicate {A = ℕ} (length o.amounts) 0 in omega (arith, a, b, is.arcs);
  within = λ a in'. by_kind (length o.amounts) (length o.spends) (λ k. slice_index (empty_flow o) k ≤ slice_index net.arcs.capacities k)
      (λ c lt. let e = empty_claim o c lt in omega (arith, e))
      (λ f lt. let e = empty_window o f in let w = is.window f lt in omega (arith, e, w)) a (omega (arith, is.arcs, in'));
}

pub nothing : (a b x : ℕ) → x ≡ 0 → (if a == b then x else 0) ≡ 0
nothing a b x e = grind (arith, nat_tests)

-- what is discharged at a party where nothing is
empty_at : (m : ℕ) (places d : List ℕ) (f : ℕ) → ((c : ℕ) → c < m → slice_index d c ≡ 0) → flow_at m places d f ≡ 0
empty_at m places d f none = sum_below-none m (λ c. if slice_index places c == f then slice_index d c else 0)
    (λ c lt. nothing (slice_index places c) f (slice_index d c) (none c lt))

empty_party : (o : Obligations) (net : Network) (f : ℕ) → IsNetworkOf o net → f < length o.spends
    → has net (empty_flow o) f ≡ owes net (empty_flow o) f
empty_party o net f is in' =
    let a = in_at o net (empty_flow o) (empty_flow o) f is (λ c lt. refl) in' in
    let b = out_at o net (empty_flow o) (empty_flow o) f is (λ c lt. refl) in' in
    let i = empty_at (length o.amounts) o.creditors (empty_flow o) f (empty_claim o) in
    let e = empty_at (length o.amounts) o.debtors (empty_flow o) f (empty_claim o) in
    let w = empty_window o f in
    omega (arith, a, b, i, e, w)

-- the ground has the spends, and owes them
empty_ground : (o : Obligations) (net : Network) → IsNetworkOf o net
    → has net (empty_flow o) (length o.spends) ≡ owes net (empty_flow o) (length o.spends)
empty_ground o net is =
    let m = length o.amounts in
    let n = length o.spends in
    let z : List ℕ = empty_flow o in
    let into : ℕ → ℕ = λ a. if slice_index net.arcs.heads a == length o.spends then slice_index (empty_flow o) a else 0 in
    let from : ℕ → ℕ = λ a. if slice_index net.arcs.tails a == length o.spends then slice_index (empty_flow o) a else 0 in
    let whole_into : sum_below (length net.arcs.capacities) into ≡ sum_below (m + n) into = ap (λ k. sum_below k into) is.arcs in
    let whole_from : sum_below (length net.arcs.capacities) from ≡ sum_below (m + n) from = ap (λ k. sum_below k from) is.arcs in
    let claims_into : sum_below m into ≡ 0 =
    sum_below-none m into (λ c lt. nothing (slice_index net.arcs.heads c) (length o.spends) _ (empty_claim o c lt)) in
    let claims_from : sum_below m from ≡ 0 =
    sum_below-none m from (λ c lt. nothing (slice_index net.arcs.tails c) (length o.spends) _ (empty_claim o c lt)) in
    let windows_into : sum_below n (λ f. into (m + f)) ≡ sum_below n (λ f. slice_index o.spends f) =
    sum_below-same n (λ f. into (m + f)) (λ f. slice_index o.spends f)
    (λ f lt. choose_yes _ (length o.spends) _ (is.ground f lt) ∙ empty_window o f) in
    let windows_from : sum_below n (λ f. from (m + f)) ≡ 0 =
    sum_below-none n (λ f. from (m + f))
    (λ f lt. choose_no _ (length o.spends) _ (λ e. let p = is.party f lt in absurd (omega (arith, e, p, lt)))) in
    let spends : sum o.spends ≡ sum_below n (λ f. slice_index o.spends f) = sum_below-all o.spends (length o.spends) refl in
    omega (
      arith,
      whole_into,
      whole_from,
      sum_below-split m n into,
      sum_below-split m n from,
      claims_into,
      claims_from,
      windows_into,
      windows_from,
      spends,
      is.ground_supply,
      is.ground_demand,
    )

pub empty_rests : (o : Obligations) (net : Network) → IsNetworkOf o net → AtRest net (empty_flow o)
empty_rests o net is v in' =
    elim (cases_lt v (length o.spends)) as (λ _. has net (empty_flow o) v ≡ owes net (empty_flow o) v) [
      | inl h ↦ empty_party o net v is h
      | inr h ↦
          let e : length o.spends ≡ v = omega (arith, in', h, is.nodes) in
          subst (λ (k : ℕ). has net (empty_flow o) k ≡ owes net (empty_flow o) k) e (empty_ground o net is)
    ]

-- ---- the flow at which a solver begins

pub full_claim : (o : Obligations) (c : ℕ) → c < length o.amounts → slice_index (full_flow o) c ≡ slice_index o.amounts c
full_claim o c lt = get_or_append_left o.amounts o.spends 0 c lt

pub full_window : (o : Obligations) (f : ℕ) → slice_index (full_flow o) (length o.amounts + f) ≡ slice_index o.spends f
full_window o f = get_or-append-add o.amounts o.spends f 0

full_is_flow : (o : Obligations) (net : Network) → IsNetworkOf o net → IsFlow net.arcs (full_flow o)
full_is_flow o net is = record {
  one_each = let a = length-append o.amounts o.spends in omega (arith, a, is.arcs);
  within = λ a in'. by_kind (length o.amounts) (length o.spends) (λ k. slice_index (full_flow o) k ≤ slice_index net.arcs.capacities k)
      (λ c lt. let e = full_claim o c lt in let w = is.amount c lt in omega (arith, e, w))
      (λ f lt. let e = full_window o f in let w = is.window f lt in omega (arith, e, w)) a (omega (arith, is.arcs, in'));
}

-- at prices of 0 the gain of an arc is its reward
free_gain : (arcs : Arcs) (p : List ℤ) (a : ℕ) → ((f : ℕ) → price_at p f ≡ pos 0) → arc_gain arcs p a ≡ pos (slice_index arcs.rewards a)
free_gain arcs p a zeros =
    let t = zeros (slice_index arcs.tails a) in
    let h = zeros (slice_index arcs.heads a) in
    omega (arith, ints, t, h)

full_slack : (o : Obligations) (net : Network) (p : List ℤ) → IsNetworkOf o net → ((f : ℕ) → price_at p f ≡ pos 0)
    → ArcSlack net.arcs (full_flow o) p
full_slack o net p is zeros = record {
  full = λ a in'. by_kind (length o.amounts) (length o.spends)
      (λ k. pos 0 <ℤ arc_gain net.arcs p k → slice_index (full_flow o) k ≡ slice_index net.arcs.capacities k)
      (λ c lt h. full_claim o c lt ∙ sym (is.amount c lt))
      (λ f lt h. let g = free_gain net.arcs p (length o.amounts + f) zeros in let r = is.free f lt in absurd (omega (arith, ints, g, r, h)))
      a (omega (arith, is.arcs, in'));
  empty = λ a in' h. let g = free_gain net.arcs p a zeros in absurd (omega (arith, ints, g, h));
}

pub network_law : NetworkLaw
network_law = record { among = are_among; empty_rests = empty_rests; full = full_is_flow; full_slack = full_slack }
