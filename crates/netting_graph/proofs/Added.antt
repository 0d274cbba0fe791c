-- One claim more, added to the arcs.
use Rattle.std.specs.Prelude.{slice_index, if◌then◌else◌, ◌==◌, ◌&&◌}
use Rattle.std.specs.List.{All}
use Rattle.std.proofs.Common.{◌≡◌, ℕ, zero, suc, ◌+◌, ◌*◌, ◌<◌, ◌≤◌, List, [], ◌∷◌, ◌++◌, length, set, get_or, refl, sym, ◌∙◌, ap, inl, inr, add-one, arith}
use Rattle.std.proofs.Math.Seq.{get_or-append_seam, map-set_same}
use Rattle.std.proofs.Math.ListN.{get_or-append}
use Rattle.std.proofs.lemmas.List.{length-map, get_or-map, map-append, map-set, length-set, length-append, get_or-set_same, get_or-set_other}
use Rattle.setoff_model.specs.declared.cut.CutClaim.{CutClaim}
use Rattle.setoff_model.specs.declared.cut.Party.{Party}
use Rattle.setoff_model.specs.Sums.{sum_below}
use Rattle.setoff_model.proofs.Columns.{no_claim}
use Rattle.setoff_model.proofs.Flows.{column}
use Rattle.setoff_model.proofs.SumsBounded.{chosen}
use Rattle.setoff_model.specs.CutView.{obligations_of, debtors, creditors, amounts}
use Rattle.netting_graph.specs.declared.arc.Arc.{Arc}
use Rattle.netting_graph.specs.Pairs.{Pairs, IsPairAt}
use Rattle.netting_graph.specs.NetView.{obligations_of_arcs, arc_debtors, arc_creditors, arc_amounts, pairs_of, grown, IsAdded}
use Rattle.netting_graph.specs.Merging.{IsMerged}
use Rattle.netting_graph.proofs.Columns.{no_arc}
use Rattle.netting_graph.proofs.OneMore.{merged_grown, merged_pushed}

-- an arc that grows keeps its pair
pub pairs_kept : (arcs : List Arc) (a : ℕ) (arc : Arc) (cents : ℕ) → arc ≡ get_or arcs a arc
    → pairs_of arcs ≡ pairs_of (set arcs a (grown arc cents))
pairs_kept arcs a arc cents is =
    let d = map-set_same (λ (x : Arc). x.debtor) arcs a (grown arc cents) arc (ap (λ (x : Arc). x.debtor) is) in
    let c = map-set_same (λ (x : Arc). x.creditor) arcs a (grown arc cents) arc (ap (λ (x : Arc). x.creditor) is) in
    ap (λ (xs : List ℕ). two xs (arc_creditors arcs)) (sym d)
    ∙ ap (λ (xs : List ℕ). two (arc_debtors (set arcs a (grown arc cents))) xs) (sym c)
  where
    two : List ℕ → List ℕ → Pairs
    two ds cs = record { debtors = ds; creditors = cs }

amounts_long : (arcs : List Arc) → length (arc_amounts arcs) ≡ length arcs
amounts_long arcs = length-map arcs (λ (x : Arc). x.amount)

module _ (m : ℕ) (claims : List CutClaim) (x : CutClaim) (old new : List Arc) (ps : List Party) (in' : m < length claims)
    (is : x ≡ get_or claims m x)
    (net : IsMerged m (obligations_of ps claims) (obligations_of_arcs ps old)) where
  debtor_is : slice_index (debtors claims) m ≡ x.debtor
  debtor_is = column (λ c. c.debtor) claims m x is in'

  creditor_is : slice_index (creditors claims) m ≡ x.creditor
  creditor_is = column (λ c. c.creditor) claims m x is in'

  amount_is : slice_index (amounts claims) m ≡ x.amount
  amount_is = column (λ c. c.amount) claims m x is in'

  -- the claim is on an arc that stands
  by_growth : (a : ℕ) → IsPairAt (pairs_of old) x.debtor x.creditor a
      → new ≡ set old a (grown (get_or old a no_arc) x.amount) → IsMerged (suc m) (obligations_of ps claims) (obligations_of_arcs ps new)
  by_growth a at e =
      let arc : Arc = get_or old a no_arc in
      let here : a < length old = omega (arith, at.within, length-map old (λ (y : Arc). y.debtor)) in
      let ds : arc_debtors new ≡ arc_debtors old =
      ap (λ (ys : List Arc). arc_debtors ys) e ∙ map-set_same (λ (y : Arc). y.debtor) old a (grown arc x.amount) no_arc refl in
      let cs : arc_creditors new ≡ arc_creditors old =
      ap (λ (ys : List Arc). arc_creditors ys) e ∙ map-set_same (λ (y : Arc). y.creditor) old a (grown arc x.amount) no_arc refl in
      let us : arc_amounts new ≡ set (arc_amounts old) a (arc.amount + x.amount) =
      ap (λ (ys : List Arc). arc_amounts ys) e ∙ map-set (λ (y : Arc). y.amount) old a (grown arc x.amount) in
      let was : slice_index (arc_amounts old) a ≡ arc.amount = get_or-map (λ (y : Arc). y.amount) old a no_arc 0 here in
      let put = get_or-set_same (arc_amounts old) a (arc.amount + x.amount) 0 (omega (arith, amounts_long old)) in
      merged_grown m (obligations_of ps claims) (obligations_of_arcs ps old) (obligations_of_arcs ps new) a
      (ap (λ (ys : List ℕ). length ys) us ∙ length-set (arc_amounts old) a (arc.amount + x.amount))
      (record { debtor = λ k _. ap (λ (ys : List ℕ). slice_index ys k) ds; creditor = λ k _. ap (λ (ys : List ℕ). slice_index ys k) cs })
      (omega (arith, amounts_long old))
      (omega (arith, ap (λ (ys : List ℕ). slice_index ys a) us, put, was, amount_is))
      (λ k _ ne. ap (λ (ys : List ℕ). slice_index ys k) us ∙ get_or-set_other (arc_amounts old) a k (arc.amount + x.amount) 0 ne)
      (record { debtor = debtor_is ∙ sym at.debtor_is; creditor = creditor_is ∙ sym at.creditor_is })
      net

  -- the claim is on a new arc
  by_push : ((a : ℕ) → IsPairAt (pairs_of old) x.debtor x.creditor a → ⊥)
      → new ≡ old ++ record { debtor = x.debtor; creditor = x.creditor; amount = x.amount } ∷ []
      → IsMerged (suc m) (obligations_of ps claims) (obligations_of_arcs ps new)
  by_push none e =
      let arc : Arc = record { debtor = x.debtor; creditor = x.creditor; amount = x.amount } in
      let n = length (arc_amounts old) in
      let ds : arc_debtors new ≡ arc_debtors old ++ x.debtor ∷ [] =
      ap (λ (ys : List Arc). arc_debtors ys) e ∙ map-append (λ (y : Arc). y.debtor) old (arc ∷ []) in
      let cs : arc_creditors new ≡ arc_creditors old ++ x.creditor ∷ [] =
      ap (λ (ys : List Arc). arc_creditors ys) e ∙ map-append (λ (y : Arc). y.creditor) old (arc ∷ []) in
      let us : arc_amounts new ≡ arc_amounts old ++ x.amount ∷ [] =
      ap (λ (ys : List Arc). arc_amounts ys) e ∙ map-append (λ (y : Arc). y.amount) old (arc ∷ []) in
      let nd : n ≡ length (arc_debtors old) = amounts_long old ∙ sym (length-map old (λ (y : Arc). y.debtor)) in
      let nc : n ≡ length (arc_creditors old) = amounts_long old ∙ sym (length-map old (λ (y : Arc). y.creditor)) in
      let kept : (xs ys : List ℕ) (y k : ℕ) → xs ≡ ys ++ y ∷ [] → k < length ys → slice_index xs k ≡ slice_index ys k =
      λ xs ys y k eq l. ap (λ (zs : List ℕ). slice_index zs k) eq ∙ get_or-append ys (y ∷ []) 0 k l in
      let last : (xs ys : List ℕ) (y k : ℕ) → xs ≡ ys ++ y ∷ [] → k ≡ length ys → slice_index xs k ≡ y =
      λ xs ys y k eq at. ap (λ (zs : List ℕ). slice_index zs k) eq ∙ ap (λ (i : ℕ). slice_index (ys ++ y ∷ []) i) at
      ∙ get_or-append_seam ys y [] 0 in
      merged_pushed m (obligations_of ps claims) (obligations_of_arcs ps old) (obligations_of_arcs ps new)
      (ap (λ (ys : List ℕ). length ys) us ∙ length-append (arc_amounts old) (x.amount ∷ []))
      (record { debtor = λ k l. kept _ _ _ k ds (omega arith); creditor = λ k l. kept _ _ _ k cs (omega arith) })
      (λ k l. kept _ _ _ k us l)
      (record { debtor = debtor_is ∙ sym (last _ _ _ n ds nd); creditor = creditor_is ∙ sym (last _ _ _ n cs nc) })
      (last _ _ _ n us refl ∙ sym amount_is)
      (λ k l on. none k (record {
        within = omega arith;
        debtor_is = sym on.debtor ∙ debtor_is;
        creditor_is = sym on.creditor ∙ creditor_is;
      }))
      net

  pub merged_more : IsAdded old x.debtor x.creditor x.amount new → IsMerged (m + 1) (obligations_of ps claims) (obligations_of_arcs ps new)
  merged_more added =
      rw add-one (elim added as (λ _. IsMerged (suc m) (obligations_of ps claims) (obligations_of_arcs ps new)) [
        | inl g ↦ by_growth g.0 g.1 (g.2 no_arc)
        | inr p ↦ by_push p.0 p.1
      ])

-- ---- limits

-- terms of at most `most` each
pub sum_below_limit : (m most : ℕ) (g : ℕ → ℕ) → ((k : ℕ) → k < m → g k ≤ most) → sum_below m g ≤ most * m
sum_below_limit zero most g small = omega arith
sum_below_limit (suc m) most g small = omega (arith, sum_below_limit m most g (λ k l. small k (omega arith)), small m (omega arith))

-- an arc has at most what its claims can have
pub arc_small : (m k : ℕ) (claims : List CutClaim) (arcs : List Arc) (ps : List Party) (d : Arc)
    → IsMerged m (obligations_of ps claims) (obligations_of_arcs ps arcs) → m ≤ length claims
    → All (λ c. c.amount ≤ 999999999999) claims → k < length arcs →
    (get_or arcs k d).amount ≤ 999999999999 * m
arc_small m k claims arcs ps d net le small in' =
    let each : (c : ℕ) → c < m → slice_index (amounts claims) c ≤ 999999999999 =
    λ c l. omega (arith, get_or-map (λ (x : CutClaim). x.amount) claims c no_claim 0 (omega arith), small c no_claim (omega arith)) in
    let p = slice_index (arc_debtors arcs) k in
    let q = slice_index (arc_creditors arcs) k in
    let sum = sum_below_limit m 999999999999
    (λ c. if slice_index (debtors claims) c == p && slice_index (creditors claims) c == q then slice_index (amounts claims) c else 0)
    (λ c l. chosen (slice_index (debtors claims) c == p && slice_index (creditors claims) c == q)
    (slice_index (amounts claims) c) 999999999999 (each c l)) in
    omega (arith, get_or-map (λ (y : Arc). y.amount) arcs k d 0 in', net.amount k (omega (arith, amounts_long arcs)), sum)
