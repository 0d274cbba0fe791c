-- The steps of the loops that read a net's index and spread a flow.
use Rattle.std.specs.Prelude.{slice_index, map, min}
use Rattle.std.specs.List.{AllPairs}
use Rattle.std.proofs.Common.{◌≡◌, ◌≢◌, ℕ, ◌+◌, ◌-◌, ◌<◌, ◌≤◌, List, [], ◌∷◌, ◌++◌, length, take, set, get_or, sym, ◌∙◌, ap, subst, arith, length-take-le}
use Rattle.std.proofs.lemmas.List.{length-map, get_or-map, get_or-take}
use Rattle.setoff_model.specs.declared.cut.CutClaim.{CutClaim}
use Rattle.setoff_model.specs.CutView.{CutView, obligations, amounts}
use Rattle.setoff_model.proofs.Columns.{claims_long}
use Rattle.netting_graph.specs.declared.arc.Arc.{Arc}
use Rattle.netting_graph.specs.Pairs.{Pairs, IsPairAt}
use Rattle.netting_graph.specs.NetView.{NetView, obligations_of_net, arc_amounts, pairs_of}
use Rattle.netting_graph.specs.Merging.{IsOnArc, IsNetOf, IsSpread}
use Rattle.netting_graph.proofs.Columns.{arcs_long}
use Rattle.netting_graph.proofs.Filling.{Filled, filled_more, all_spread}

-- an arc's pair is none of those before it
pub new_pair : (arcs : List Arc) (i : ℕ) (d : Arc) (index : Pairs) → i < length arcs
    → AllPairs (λ (a b : Arc). a.debtor ≡ b.debtor → a.creditor ≢ b.creditor) arcs → index ≡ pairs_of (take i arcs) →
    (a : ℕ) → IsPairAt index (get_or arcs i d).debtor (get_or arcs i d).creditor a → ⊥
new_pair arcs i d index in' apart tied a at_index =
    let at : IsPairAt (pairs_of (take i arcs)) (get_or arcs i d).debtor (get_or arcs i d).creditor a =
    subst (λ (v : Pairs). IsPairAt v (get_or arcs i d).debtor (get_or arcs i d).creditor a) tied at_index in
    let short : length (take i arcs) ≡ i = length-take-le i arcs (omega arith) in
    let before : a < i = omega (arith, at.within, length-map (take i arcs) (λ (x : Arc). x.debtor), short) in
    let there : a < length (take i arcs) = omega arith in
    let same : get_or (take i arcs) a d ≡ get_or arcs a d = get_or-take i arcs a d before in
    let debtor : (get_or arcs a d).debtor ≡ (get_or arcs i d).debtor =
    ap (λ (x : Arc). x.debtor) (sym same) ∙ sym (get_or-map (λ (x : Arc). x.debtor) (take i arcs) a d 0 there) ∙ at.debtor_is in
    let creditor : (get_or arcs a d).creditor ≡ (get_or arcs i d).creditor =
    ap (λ (x : Arc). x.creditor) (sym same) ∙ sym (get_or-map (λ (x : Arc). x.creditor) (take i arcs) a d 0 there) ∙ at.creditor_is in
    apart a i d before in' debtor creditor

-- what a column has of a claim that was read
pub column : (f : CutClaim → ℕ) (cut : CutView) (claims : List CutClaim) (i : ℕ) (x : CutClaim) → claims ≡ cut.claims
    → x ≡ get_or claims i x → i < length claims → slice_index (map f cut.claims) i ≡ f x
column f cut claims i x same is in' =
    ap (λ (xs : List CutClaim). slice_index (map f xs) i) (sym same) ∙ get_or-map f claims i x 0 in' ∙ ap f (sym is)

module _ (cut : CutView) (net : NetView) (claims : List CutClaim) (index : Pairs) (i : ℕ) (x : CutClaim)
    (net_of : IsNetOf cut net) (same : claims ≡ cut.claims)
    (tied : index ≡ pairs_of net.arcs) (in' : i < length claims) (is : x ≡ get_or claims i x) where
  -- each claim's pair is in the index
  pub known_pair : (a : ℕ) × IsPairAt index x.debtor x.creditor a
  known_pair =
      let arc = net_of.merged.arc_of i (omega (arith, ap (λ (xs : List CutClaim). length xs) same)) in
      let at : IsPairAt (pairs_of net.arcs) x.debtor x.creditor arc.0 = record {
        within = omega (arith, arc.1, arcs_long net, length-map net.arcs (λ (y : Arc). y.debtor));
        debtor_is = sym arc.2.debtor ∙ column (λ (c : CutClaim). c.debtor) cut claims i x same is in';
        creditor_is = sym arc.2.creditor ∙ column (λ (c : CutClaim). c.creditor) cut claims i x same is in';
      } in
      (arc.0, subst (λ (v : Pairs). IsPairAt v x.debtor x.creditor arc.0) (sym tied) at)

  -- the next claim takes its part
  pub claim_filled : (flows left left' d d' : List ℕ) (r : ℕ) → Filled i (obligations cut) (obligations_of_net net) flows left d →
      (a : ℕ) × IsPairAt index x.debtor x.creditor a × (r ≡ min (slice_index left a) x.amount)
      × (left' ≡ set left a (slice_index left a - r)) → d' ≡ d ++ r ∷ [] →
      Filled (i + 1) (obligations cut) (obligations_of_net net) flows left' d'
  claim_filled flows left left' d d' r filled fill pushed =
      let q = fill.0 in
      let at : IsPairAt (pairs_of net.arcs) x.debtor x.creditor q = subst (λ (v : Pairs). IsPairAt v x.debtor x.creditor q) tied fill.1 in
      let on : IsOnArc (obligations cut) (obligations_of_net net) i q = record {
        debtor = column (λ (c : CutClaim). c.debtor) cut claims i x same is in' ∙ sym at.debtor_is;
        creditor = column (λ (c : CutClaim). c.creditor) cut claims i x same is in' ∙ sym at.creditor_is;
      } in
      let amount : slice_index (amounts cut.claims) i ≡ x.amount = column (λ (c : CutClaim). c.amount) cut claims i x same is in' in
      let part : r ≡ min (slice_index left q) (slice_index (amounts cut.claims) i) =
      fill.2 ∙ ap (λ (u : ℕ). min (slice_index left q) u) (sym amount) in
      let within : q < length (arc_amounts net.arcs) =
      omega (arith, at.within, arcs_long net, length-map net.arcs (λ (y : Arc). y.debtor)) in
      let next = filled_more i (obligations cut) (obligations_of_net net) flows left d q r (length cut.claims) net_of.merged
      within on part filled in
      subst (λ (xs : List ℕ). Filled (i + 1) (obligations cut) (obligations_of_net net) flows xs d') (sym fill.3)
      (subst (λ (xs : List ℕ). Filled (i + 1) (obligations cut) (obligations_of_net net) flows (set left q (slice_index left q - r)) xs)
      (sym pushed) next)

-- after the last claim the flow is spread
pub spread_whole : (cut : CutView) (net : NetView) (flows left d : List ℕ) → IsNetOf cut net
    → Filled (length cut.claims) (obligations cut) (obligations_of_net net) flows left d →
    ((a : ℕ) → a < length net.arcs → slice_index flows a ≤ slice_index (arc_amounts net.arcs) a) → IsSpread cut net flows d
spread_whole cut net flows left d net_of filled within =
    let sums = all_spread (length cut.claims) (obligations cut) (obligations_of_net net) flows left d net_of.merged filled
    (λ a l. within a (omega (arith, arcs_long net))) in
    record {
      one_each = filled.long;
      within = filled.within;
      sums = λ a l. sums a (omega (arith, arcs_long net));
      oldest_first = λ a b lt l. filled.oldest a b lt (omega (arith, claims_long cut));
    }
