-- At rest with the facts: lawful and tight.
use Rattle.std.specs.Prelude.{ℤ, pos, slice_index, if◌then◌else◌, ◌==◌}
use Rattle.std.proofs.Common.{◌≡◌, ℕ, ◌+◌, ◌<◌, List, length, refl, sym, ◌∙◌, ap, subst, arith}
use lib.Signed.{◌<ℤ◌}
use Rattle.std.proofs.lemmas.Int.{ints}
use Rattle.setoff_model.specs.Sums.{sum_below}
use Rattle.setoff_model.specs.Setoff.{Obligations, IsLawful, inflow, outflow, price_at}
use Rattle.setoff_model.specs.Weighted.{WeightedSlack, weighted_gain}
use Rattle.setoff_model.proofs.Circulation.{sum_below-same, sum_below-zero, price_past}
use Rattle.setoff_model.proofs.Weighed.{weighted_tight}
use Rattle.residual_network.specs.Network.{Network, arc_gain, has, owes, IsFlow, ArcSlack, AtRest}
use Rattle.residual_network.specs.NetworkOf.{IsNetworkOf}
use Rattle.residual_network.specs.Laws.{RestLaw}
use Rattle.setoff_model.proofs.Sums.{sum_below-split, sum_below-only, choose_yes, choose_no}

-- what a party has and owes
pub in_at : (o : Obligations) (net : Network) (x d : List ℕ) (f : ℕ) → IsNetworkOf o net
    → ((c : ℕ) → c < length o.amounts → slice_index d c ≡ slice_index x c) → f < length o.spends
    → has net x f ≡ slice_index o.spends f + inflow o d f
in_at o net x d f is same in' =
    let m = length o.amounts in
    let n = length o.spends in
    let g : ℕ → ℕ = λ c. if slice_index net.arcs.heads c == f then slice_index x c else 0 in
    let whole : sum_below (length net.arcs.capacities) g ≡ sum_below (m + n) g = ap (λ k. sum_below k g) is.arcs in
    let split = sum_below-split m n g in
    let claims : sum_below m g ≡ inflow o d f =
    sum_below-same m g (λ c. if slice_index o.creditors c == f then slice_index d c else 0)
    (λ c lt. let h = is.head c lt in let s = same c lt in rw (h, s) refl) in
    let none : sum_below n (λ k. g (m + k)) ≡ 0 =
    sum_below-same n (λ k. g (m + k)) (λ _. 0) (λ k lt. choose_no _ f _ (λ e. absurd (omega (arith, e, is.ground k lt))))
    ∙ sum_below-zero n in
    omega (arith, whole, split, claims, none, is.supply f in')

pub out_at : (o : Obligations) (net : Network) (x d : List ℕ) (f : ℕ) → IsNetworkOf o net
    → ((c : ℕ) → c < length o.amounts → slice_index d c ≡ slice_index x c) → f < length o.spends
    → owes net x f ≡ outflow o d f + slice_index x (length o.amounts + f)
out_at o net x d f is same in' =
    let m = length o.amounts in
    let n = length o.spends in
    let g : ℕ → ℕ = λ c. if slice_index net.arcs.tails c == f then slice_index x c else 0 in
    let whole : sum_below (length net.arcs.capacities) g ≡ sum_below (m + n) g = ap (λ k. sum_below k g) is.arcs in
    let split = sum_below-split m n g in
    let claims : sum_below m g ≡ outflow o d f =
    sum_below-same m g (λ c. if slice_index o.debtors c == f then slice_index d c else 0)
    (λ c lt. let h = is.tail c lt in let s = same c lt in rw (h, s) refl) in
    let only : sum_below n (λ k. g (m + k)) ≡ g (m + f) =
    sum_below-only n f (λ k. g (m + k)) in' (λ k lt ne. choose_no _ f _ (λ e. ne (omega (arith, e, is.party k lt)))) in
    let own : g (m + f) ≡ slice_index x (m + f) = choose_yes _ f _ (is.party f in') in
    omega (arith, whole, split, claims, only, own, is.demand f in')

-- at rest the flow over a window stands above the spend by what the party gains
rest_at : (o : Obligations) (net : Network) (x d : List ℕ) (f : ℕ) → IsNetworkOf o net → AtRest net x
    → ((c : ℕ) → c < length o.amounts → slice_index d c ≡ slice_index x c) → f < length o.spends →
    slice_index o.spends f + inflow o d f ≡ outflow o d f + slice_index x (length o.amounts + f)
rest_at o net x d f is rest same in' =
    let a = in_at o net x d f is same in' in
    let b = out_at o net x d f is same in' in
    let r = rest f (omega (arith, is.nodes)) in
    omega (arith, a, b, r)

pub rest_lawful : (o : Obligations) (net : Network) (x d : List ℕ) → IsNetworkOf o net → IsFlow net.arcs x → AtRest net x
    → length d ≡ length o.amounts → ((c : ℕ) → c < length o.amounts → slice_index d c ≡ slice_index x c) → IsLawful o d
rest_lawful o net x d is flow rest one same = record {
  one_each = one;
  within = λ c in'. let w = flow.within c (omega (arith, is.arcs)) in omega (arith, w, same c in', is.amount c in');
  windows = λ f in'.
      let e = rest_at o net x d f is rest same in' in
      let w = flow.within (length o.amounts + f) (omega (arith, is.arcs)) in
      let k = is.window f in' in
      record { room_kept = omega (arith, e, w, k); spend_kept = omega (arith, e) };
}

pub rest_slack : (o : Obligations) (net : Network) (x d : List ℕ) (p : List ℤ) → IsNetworkOf o net → IsFlow net.arcs x
    → AtRest net x → ArcSlack net.arcs x p → length p ≡ length o.spends
    → ((c : ℕ) → c < length o.amounts → slice_index d c ≡ slice_index x c) → WeightedSlack o net.arcs.rewards d p
rest_slack o net x d p is flow rest facts each same = record {
  full = λ c in' h. same c in' ∙ facts.full c (omega (arith, is.arcs)) (subst (λ (z : ℤ). pos 0 <ℤ z) (sym (claim_gain c in')) h)
      ∙ is.amount c in';
  empty = λ c in' h. same c in' ∙ facts.empty c (omega (arith, is.arcs)) (subst (λ (z : ℤ). z <ℤ pos 0) (sym (claim_gain c in')) h);
  at_room = λ f in' h.
      let e = rest_at o net x d f is rest same in' in
      let full = facts.full (length o.amounts + f) (omega (arith, is.arcs)) (subst (λ (z : ℤ). pos 0 <ℤ z) (sym (window_gain f in')) h) in
      omega (arith, e, full, is.window f in');
  at_spend = λ f in' h.
      let e = rest_at o net x d f is rest same in' in
      let empty = facts.empty (length o.amounts + f) (omega (arith, is.arcs)) (subst (λ (z : ℤ). z <ℤ pos 0) (sym (window_gain f in')) h) in
      omega (arith, e, empty);
}
  where
    claim_gain : (c : ℕ) → c < length o.amounts → arc_gain net.arcs p c ≡ weighted_gain o net.arcs.rewards p c
    claim_gain c in' = let t = is.tail c in' in let h = is.head c in' in rw (t, h) refl

    window_gain : (f : ℕ) → f < length o.spends → arc_gain net.arcs p (length o.amounts + f) ≡ price_at p f
    window_gain f in' =
        let t = is.party f in' in let h = is.ground f in' in let r = is.free f in' in
        let z : price_at p (length o.spends) ≡ pos 0 = price_past p (length o.spends) (omega (arith, each)) in
        rw (t, h, r, z) (omega (arith, ints))

pub rest_law : RestLaw
rest_law = record {
  lawful = rest_lawful;
  tight = λ o net x d p is flow rest facts each one same. weighted_tight o net.arcs.rewards d p one each
      (rest_slack o net x d p is flow rest facts each same);
}
