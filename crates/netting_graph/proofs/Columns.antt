-- The words of a cut and of its net, by columns.
use Rattle.std.specs.Prelude.{if◌then◌else◌, ◌==◌, ◌&&◌, true, false, slice_index, ℤ, pos, ◌+ℤ◌, ◌-ℤ◌}
use Rattle.std.proofs.Common.{◌≡◌, ℕ, ◌*◌, ◌<◌, ◌≤◌, Bool, List, length, get_or, sym, ◌∙◌, ap, subst, inl, inr, arith}
use Rattle.std.proofs.lemmas.Bool.{cases_lt}
use Rattle.std.proofs.lemmas.List.{length-map, get_or-map}
use Rattle.setoff_model.specs.Sums.{sum_below, above_zero}
use Rattle.setoff_model.specs.Setoff.{Obligations, inflow, outflow, total_of, flow_at, factor, price_at, claims_bound}
use Rattle.setoff_model.specs.CutView.{CutView, obligations, debtors, creditors}
use Rattle.setoff_model.proofs.Circulation.{sum_below-le, sum_below-same, sum_below-all}
use Rattle.setoff_model.proofs.Columns.{claims_long}
use Rattle.netting_graph.specs.declared.arc.Arc.{Arc}
use Rattle.netting_graph.specs.NetView.{NetView, obligations_of_net, arc_debtors, arc_creditors}
use Rattle.netting_graph.specs.Merging.{flow_between, IsMerged, IsNetOf, IsSpread, merged}
use Rattle.netting_graph.proofs.Crossing.{crossing}

-- the sum of x over the claims of the debtor and the creditor of arc a
abbrev pub sum_on_arc : Obligations → Obligations → List ℕ → ℕ → ℕ
sum_on_arc claims arcs x a =
    flow_between (length claims.amounts) claims.debtors claims.creditors x (slice_index arcs.debtors a) (slice_index arcs.creditors a)

-- y has of each arc the sum of x over its claims
abbrev pub SumsOnArcs : Obligations → Obligations → List ℕ → List ℕ → Type 0
SumsOnArcs o n x y = (a : ℕ) → a < length n.amounts → slice_index y a ≡ sum_on_arc o n x a

-- two arcs of one pair are one
pub one_arc : (o n : Obligations) → IsMerged (length o.amounts) o n → (a b : ℕ) → a < length n.amounts
    → b < length n.amounts → slice_index n.debtors a ≡ slice_index n.debtors b
    → slice_index n.creditors a ≡ slice_index n.creditors b → a ≡ b
one_arc o n net a b la lb d c =
    elim (cases_lt a b) as (λ _. a ≡ b) [
      | inl lt ↦ absurd (net.apart a b lt lb (record { debtor = d; creditor = c }))
      | inr le ↦ elim (cases_lt b a) as (λ _. a ≡ b) [
        | inl lt ↦ absurd (net.apart b a lt la (record { debtor = sym d; creditor = sym c }))
        | inr ge ↦ omega arith
      ]
    ]

-- sums over the arcs are sums over the claims
pub weighed : (o n : Obligations) (x y : List ℕ) (w : ℕ → ℕ → ℕ) → IsMerged (length o.amounts) o n → SumsOnArcs o n x y →
    sum_below (length n.amounts) (λ a. w (slice_index n.debtors a) (slice_index n.creditors a) * slice_index y a)
    ≡ sum_below (length o.amounts) (λ c. w (slice_index o.debtors c) (slice_index o.creditors c) * slice_index x c)
weighed o n x y w net sums =
    let has : (c : ℕ) → c < length o.amounts
    → (a : ℕ) × (a < length n.amounts) × (slice_index o.debtors c ≡ slice_index n.debtors a)
    × (slice_index o.creditors c ≡ slice_index n.creditors a) =
    λ c l. let arc = net.arc_of c l in (arc.0, arc.1, arc.2.debtor, arc.2.creditor) in
    sum_below-same (length n.amounts) (λ a. w (slice_index n.debtors a) (slice_index n.creditors a) * slice_index y a)
    (λ a. w (slice_index n.debtors a) (slice_index n.creditors a) * sum_on_arc o n x a)
    (λ a l. ap (λ (v : ℕ). w (slice_index n.debtors a) (slice_index n.creditors a) * v) (sums a l))
    ∙ crossing (length o.amounts) (length n.amounts) (λ c. slice_index o.debtors c) (λ c. slice_index o.creditors c)
    (λ a. slice_index n.debtors a) (λ a. slice_index n.creditors a) w (λ c. slice_index x c) has (one_arc o n net)

-- 1 where the test holds
abbrev one_if : Bool → ℕ
one_if true = 1
one_if false = 0

if_is_weight : (b : Bool) (x : ℕ) → (if b then x else 0) ≡ one_if b * x
if_is_weight true x = omega arith
if_is_weight false x = omega arith

pub same_total : (o n : Obligations) (x y : List ℕ) → IsMerged (length o.amounts) o n → SumsOnArcs o n x y
    → length x ≡ length o.amounts → length y ≡ length n.amounts → total_of y ≡ total_of x
same_total o n x y net sums lx ly =
    let cross = weighed o n x y (λ d c. 1) net sums in
    let ones : (m : ℕ) (z : List ℕ) → sum_below m (λ k. slice_index z k) ≡ sum_below m (λ k. 1 * slice_index z k) =
    λ m z. sum_below-same m (λ k. slice_index z k) (λ k. 1 * slice_index z k) (λ k _. omega arith) in
    sum_below-all y (length n.amounts) ly ∙ ones (length n.amounts) y ∙ cross ∙ sym (ones (length o.amounts) x)
    ∙ sym (sum_below-all x (length o.amounts) lx)

-- flows at a place are weighed by 1 and 0
flow_is_weighed : (m : ℕ) (places x : List ℕ) (f : ℕ)
    → flow_at m places x f ≡ sum_below m (λ k. one_if (slice_index places k == f) * slice_index x k)
flow_is_weighed m places x f =
    sum_below-same m (λ k. if slice_index places k == f then slice_index x k else 0)
    (λ k. one_if (slice_index places k == f) * slice_index x k) (λ k _. if_is_weight (slice_index places k == f) (slice_index x k))

pub same_inflow : (o n : Obligations) (x y : List ℕ) (f : ℕ) → IsMerged (length o.amounts) o n → SumsOnArcs o n x y
    → inflow n y f ≡ inflow o x f
same_inflow o n x y f net sums =
    flow_is_weighed (length n.amounts) n.creditors y f ∙ weighed o n x y (λ d c. one_if (c == f)) net sums
    ∙ sym (flow_is_weighed (length o.amounts) o.creditors x f)

pub same_outflow : (o n : Obligations) (x y : List ℕ) (f : ℕ) → IsMerged (length o.amounts) o n → SumsOnArcs o n x y
    → outflow n y f ≡ outflow o x f
same_outflow o n x y f net sums =
    flow_is_weighed (length n.amounts) n.debtors y f ∙ weighed o n x y (λ d c. one_if (d == f)) net sums
    ∙ sym (flow_is_weighed (length o.amounts) o.debtors x f)

-- the claims' part of the bounds is the same
pub same_claims_bound : (o n : Obligations) (p : List ℤ) → IsMerged (length o.amounts) o n
    → claims_bound (length n.amounts) n.debtors n.creditors n.amounts p ≡ claims_bound (length o.amounts) o.debtors o.creditors o.amounts p
same_claims_bound o n p net =
    let w : ℕ → ℕ → ℕ = λ d c. above_zero ((pos 1 +ℤ price_at p d) -ℤ price_at p c) in
    let turned : (k : Obligations)
    → sum_below (length k.amounts) (λ a. slice_index k.amounts a * factor k.debtors k.creditors p a)
    ≡ sum_below (length k.amounts) (λ a. w (slice_index k.debtors a) (slice_index k.creditors a) * slice_index k.amounts a) =
    λ k. sum_below-same (length k.amounts) (λ a. slice_index k.amounts a * factor k.debtors k.creditors p a)
    (λ a. w (slice_index k.debtors a) (slice_index k.creditors a) * slice_index k.amounts a) (λ a _. omega arith) in
    turned n ∙ weighed o n o.amounts n.amounts w net net.amount ∙ sym (turned o)

-- sums of smaller terms are smaller
pub sum_on_arc-le : (o n : Obligations) (x z : List ℕ) (a : ℕ)
    → ((c : ℕ) → c < length o.amounts → slice_index x c ≤ slice_index z c) → sum_on_arc o n x a ≤ sum_on_arc o n z a
sum_on_arc-le o n x z a le =
    let part : List ℕ → ℕ → ℕ = λ y c. if slice_index o.debtors c == slice_index n.debtors a && slice_index o.creditors c ==
    slice_index n.creditors a then slice_index y c else 0 in
    let if_le : (b : Bool) (u v : ℕ) → u ≤ v → (if b then u else 0) ≤ (if b then v else 0) =
    λ b u v h. elim b as (λ t. (if t then u else 0) ≤ (if t then v else 0)) [ true ↦ h | false ↦ omega arith ] in
    sum_below-le (length o.amounts) (part x) (part z)
    (λ c l. if_le (slice_index o.debtors c == slice_index n.debtors a && slice_index o.creditors c == slice_index n.creditors a)
    (slice_index x c) (slice_index z c) (le c l))

-- ---- a cut and its net

-- an arc to read where there is none
abbrev pub no_arc : Arc
no_arc = record { debtor = 0; creditor = 0; amount = 0 }

pub net_merged : (cut : CutView) (net : NetView) → IsNetOf cut net
    → IsMerged (length (obligations cut).amounts) (obligations cut) (obligations_of_net net)
net_merged cut net is =
    subst (λ (m : ℕ). IsMerged m (obligations cut) (obligations_of_net net)) (sym (claims_long cut)) is.merged

pub arcs_long : (net : NetView) → length (obligations_of_net net).amounts ≡ length net.arcs
arcs_long net = length-map net.arcs (λ (a : Arc). a.amount)

-- the merged discharges are the sums on the arcs
pub merged_sums : (cut : CutView) (net : NetView) (d : List ℕ) → SumsOnArcs (obligations cut) (obligations_of_net net) d (merged cut net d)
merged_sums cut net d a l =
    let in' : a < length net.arcs = omega (arith, arcs_long net) in
    let f : Arc → ℕ = λ x. flow_between (length cut.claims) (debtors cut.claims) (creditors cut.claims) d x.debtor x.creditor in
    let debtor = get_or-map (λ (x : Arc). x.debtor) net.arcs a no_arc 0 in' in
    let creditor = get_or-map (λ (x : Arc). x.creditor) net.arcs a no_arc 0 in' in
    get_or-map f net.arcs a no_arc 0 in'
    ∙ ap (λ (k : ℕ). flow_between (length cut.claims) (debtors cut.claims) (creditors cut.claims) d k (get_or net.arcs a no_arc).creditor)
    (sym debtor)
    ∙ ap (λ (k : ℕ). flow_between (length cut.claims) (debtors cut.claims) (creditors cut.claims) d
    (slice_index (arc_debtors net.arcs) a) k) (sym creditor)
    ∙ ap (λ (k : ℕ). flow_between k (debtors cut.claims) (creditors cut.claims) d (slice_index (arc_debtors net.arcs) a)
    (slice_index (arc_creditors net.arcs) a)) (sym (claims_long cut))

pub spread_sums : (cut : CutView) (net : NetView) (flows d : List ℕ) → IsSpread cut net flows d
    → SumsOnArcs (obligations cut) (obligations_of_net net) d flows
spread_sums cut net flows d spread a l =
    sym (spread.sums a (omega (arith, arcs_long net)))
    ∙ ap (λ (k : ℕ). flow_between k (debtors cut.claims) (creditors cut.claims) d (slice_index (arc_debtors net.arcs) a)
    (slice_index (arc_creditors net.arcs) a)) (sym (claims_long cut))
