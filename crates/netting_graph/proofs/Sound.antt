-- What holds of the net of a well-formed cut.
use Rattle.std.specs.Prelude.{slice_index, if◌then◌else◌, ◌==◌, ◌&&◌}
use Rattle.std.specs.List.{All}
use Rattle.std.proofs.Common.{◌≡◌, ℕ, zero, suc, ◌*◌, ◌<◌, ◌≤◌, List, length, get_or, refl, sym, ◌∙◌, ap, inl, inr, subst, arith}
use Rattle.std.proofs.lemmas.Bool.{cases_eq}
use Rattle.std.proofs.lemmas.List.{get_or-map}
use Rattle.setoff_model.specs.declared.limits.TheConstants.{MOST_CLAIMS, MOST_AMOUNT, MOST_WINDOW}
use Rattle.setoff_model.specs.declared.cut.CutClaim.{CutClaim}
use Rattle.setoff_model.specs.declared.cut.Party.{Party}
use Rattle.setoff_model.specs.Sums.{sum_below}
use Rattle.setoff_model.specs.Setoff.{total_of}
use Rattle.setoff_model.specs.CutView.{CutView, WellFormed, obligations, debtors, creditors, amounts}
use Rattle.setoff_model.proofs.Circulation.{sum_below-le, sum_below-all}
use Rattle.setoff_model.proofs.Columns.{limit_small, no_claim, claims_long, amount_small}
use Rattle.netting_graph.specs.declared.arc.Arc.{Arc}
use Rattle.netting_graph.specs.NetView.{NetView, IsArcAmong, IsNet, obligations_of_net, arc_debtors, arc_creditors, arc_amounts}
use Rattle.netting_graph.specs.Merging.{IsNetOf}
use Rattle.netting_graph.proofs.Crossing.{crossing, pair_yes}
use Rattle.netting_graph.proofs.Columns.{one_arc, same_total, net_merged, arcs_long}
use Rattle.netting_graph.proofs.Added.{sum_below_limit}

-- a term is within the sum
pub sum_below_term : (m : ℕ) (g : ℕ → ℕ) (c : ℕ) → c < m → g c ≤ sum_below m g
sum_below_term zero g c l = absurd (omega arith)
sum_below_term (suc m) g c l =
    elim (cases_eq m c) as (λ _. g c ≤ sum_below (suc m) g) [
      | inl e ↦ omega (arith, ap g e)
      | inr ne ↦ omega (arith, sum_below_term m g c (omega arith))
    ]

ones : (n : ℕ) → sum_below n (λ _. 1) ≡ n
ones zero = refl
ones (suc n) = omega (arith, ones n)

module _ (cut : CutView) (net : NetView) (formed : WellFormed cut) (is : IsNetOf cut net) where
  -- the claims of each arc count at least 1, and all claims together as many as there are
  few_arcs : length net.arcs ≤ length cut.claims
  few_arcs =
      let m = length cut.claims in
      let n = length (arc_amounts net.arcs) in
      let cd : ℕ → ℕ = λ c. slice_index (debtors cut.claims) c in
      let cc : ℕ → ℕ = λ c. slice_index (creditors cut.claims) c in
      let ad : ℕ → ℕ = λ a. slice_index (arc_debtors net.arcs) a in
      let ac : ℕ → ℕ = λ a. slice_index (arc_creditors net.arcs) a in
      let hit : ℕ → ℕ → ℕ = λ a c. if cd c == ad a && cc c == ac a then 1 else 0 in
      let has : (c : ℕ) → c < m → (a : ℕ) × (a < n) × (cd c ≡ ad a) × (cc c ≡ ac a) =
      λ c l. let arc = is.merged.arc_of c l in (arc.0, arc.1, arc.2.debtor, arc.2.creditor) in
      let counted : (a : ℕ) → a < n → 1 ≤ 1 * sum_below m (hit a) =
      λ a l.
      let claim = is.merged.claim_of a l in
      let here = pair_yes (cd claim.0) (cc claim.0) (ad a) (ac a) claim.2.debtor claim.2.creditor in
      let one : hit a claim.0 ≡ 1 = rw here refl in
      omega (arith, one, sum_below_term m (hit a) claim.0 claim.1) in
      let all = crossing m n cd cc ad ac (λ _ _. 1) (λ _. 1) has
      (one_arc (obligations cut) (obligations_of_net net) (net_merged cut net is)) in
      omega (arith, all, ones n, ones m, sum_below-le n (λ _. 1) (λ a. 1 * sum_below m (hit a)) counted, arcs_long net)

  -- all arcs have what all claims have
  small_total : total_of (arc_amounts net.arcs) ≤ MOST_CLAIMS * MOST_AMOUNT
  small_total =
      let same = same_total (obligations cut) (obligations_of_net net) (amounts cut.claims) (arc_amounts net.arcs)
      (net_merged cut net is) (net_merged cut net is).amount refl refl in
      let all = sum_below-all (amounts cut.claims) (length cut.claims) (claims_long cut) in
      omega (
        arith,
        same,
        all,
        formed.few_claims,
        sum_below_limit (length cut.claims) MOST_AMOUNT (λ c. slice_index (amounts cut.claims) c) (λ c l. amount_small cut c formed l),
      )

  -- an arc is between the parties of its claims
  among : (k : ℕ) (d : Arc) → k < length net.arcs → IsArcAmong net.parties (get_or net.arcs k d)
  among k d l =
      let in' : k < length (arc_amounts net.arcs) = omega (arith, arcs_long net) in
      let claim = is.merged.claim_of k in' in
      let good = formed.claims claim.0 no_claim claim.1 in
      let cd = get_or-map (λ (c : CutClaim). c.debtor) cut.claims claim.0 no_claim 0 claim.1 in
      let cc = get_or-map (λ (c : CutClaim). c.creditor) cut.claims claim.0 no_claim 0 claim.1 in
      let cu = get_or-map (λ (c : CutClaim). c.amount) cut.claims claim.0 no_claim 0 claim.1 in
      let ad = get_or-map (λ (a : Arc). a.debtor) net.arcs k d 0 l in
      let ac = get_or-map (λ (a : Arc). a.creditor) net.arcs k d 0 l in
      let au = get_or-map (λ (a : Arc). a.amount) net.arcs k d 0 l in
      let p : ℕ = slice_index (arc_debtors net.arcs) k in
      let q : ℕ = slice_index (arc_creditors net.arcs) k in
      let debtor_is : (get_or net.arcs k d).debtor ≡ (get_or cut.claims claim.0 no_claim).debtor = sym ad ∙ sym claim.2.debtor ∙ cd in
      let creditor_is : (get_or net.arcs k d).creditor ≡ (get_or cut.claims claim.0 no_claim).creditor =
      sym ac ∙ sym claim.2.creditor ∙ cc in
      let places : length net.parties ≡ length cut.parties = ap (λ (ps : List Party). length ps) is.parties in
      let term : ℕ → ℕ = λ c. if slice_index (debtors cut.claims) c == p && slice_index (creditors cut.claims) c == q then
      slice_index (amounts cut.claims) c else 0 in
      let here = pair_yes (slice_index (debtors cut.claims) claim.0) (slice_index (creditors cut.claims) claim.0) p q
      claim.2.debtor claim.2.creditor in
      let own : term claim.0 ≡ slice_index (amounts cut.claims) claim.0 = rw here refl in
      let sum = sum_below_term (length cut.claims) term claim.0 claim.1 in
      let whole = sum_below-all (arc_amounts net.arcs) (length net.arcs) (arcs_long net) in
      let part = sum_below_term (length net.arcs) (λ a. slice_index (arc_amounts net.arcs) a) k l in
      record {
        debtor = omega (arith, debtor_is, places, good.debtor);
        creditor = omega (arith, creditor_is, places, good.creditor);
        apart = λ e. good.apart (sym debtor_is ∙ e ∙ creditor_is);
        some = omega (arith, good.some, cu, au, is.merged.amount k in', own, sum);
        limit = omega (arith, au, part, whole, small_total);
      }

  pairs_differ : (i j : ℕ) (d : Arc) → i < j → j < length net.arcs
      → (get_or net.arcs i d).debtor ≡ (get_or net.arcs j d).debtor → (get_or net.arcs i d).creditor ≡ (get_or net.arcs j d).creditor → ⊥
  pairs_differ i j d lt l debtor creditor =
      is.merged.apart i j lt (omega (arith, arcs_long net)) (record {
        debtor = get_or-map (λ (a : Arc). a.debtor) net.arcs i d 0 (omega arith) ∙ debtor
            ∙ sym (get_or-map (λ (a : Arc). a.debtor) net.arcs j d 0 l);
        creditor = get_or-map (λ (a : Arc). a.creditor) net.arcs i d 0 (omega arith) ∙ creditor
            ∙ sym (get_or-map (λ (a : Arc). a.creditor) net.arcs j d 0 l);
      })

  small_spends : All (λ (f : Party). f.spend ≤ MOST_WINDOW) cut.parties
  small_spends k d l = omega (arith, limit_small cut.kind, (formed.windows k d l).0)

  small_rooms : All (λ (f : Party). f.room ≤ MOST_WINDOW) cut.parties
  small_rooms k d l = omega (arith, limit_small cut.kind, (formed.windows k d l).1)

  pub sound : IsNet net
  sound = record {
    few_parties = omega (arith, ap (λ (ps : List Party). length ps) is.parties, formed.few_parties);
    few_arcs = omega (arith, few_arcs, formed.few_claims);
    pairs = pairs_differ;
    arcs = among;
    total = small_total;
    spends = subst (λ (ps : List Party). All (λ (f : Party). f.spend ≤ MOST_WINDOW) ps) (sym is.parties) small_spends;
    rooms = subst (λ (ps : List Party). All (λ (f : Party). f.room ≤ MOST_WINDOW) ps) (sym is.parties) small_rooms;
  }
