-- The net of one claim more.
use Rattle.std.specs.Prelude.{if◌then◌else◌, ◌==◌, ◌&&◌, slice_index}
use Rattle.std.proofs.Common.{◌≡◌, ℕ, suc, ◌+◌, ◌<◌, List, length, refl, sym, ◌∙◌, ap, subst, inl, inr, arith}
use Rattle.std.proofs.lemmas.Bool.{cases_eq, cases_lt}
use Rattle.setoff_model.specs.Setoff.{Obligations}
use Rattle.setoff_model.proofs.Circulation.{sum_below-same, sum_below-zero}
use Rattle.netting_graph.specs.Merging.{flow_between, IsOnArc, IsMerged}
use Rattle.netting_graph.proofs.Crossing.{pair_yes, pair_no}

-- one claim more adds nothing where it is of another pair
pub between_other : (m : ℕ) (ds cs x : List ℕ) (p q : ℕ) → (slice_index ds m ≡ p → slice_index cs m ≡ q → ⊥)
    → flow_between (suc m) ds cs x p q ≡ flow_between m ds cs x p q
between_other m ds cs x p q apart =
    let no = pair_no (slice_index ds m) (slice_index cs m) p q apart in
    rw no (omega arith)

-- and its own number where it is of the pair
pub between_same : (m : ℕ) (ds cs x : List ℕ) (p q : ℕ) → slice_index ds m ≡ p → slice_index cs m ≡ q
    → flow_between (suc m) ds cs x p q ≡ flow_between m ds cs x p q + slice_index x m
between_same m ds cs x p q d c =
    let here = pair_yes (slice_index ds m) (slice_index cs m) p q d c in
    rw here refl

-- claims of other pairs add nothing
between_none : (m : ℕ) (ds cs x : List ℕ) (p q : ℕ) → ((c : ℕ) → c < m → slice_index ds c ≡ p → slice_index cs c ≡ q → ⊥)
    → flow_between m ds cs x p q ≡ 0
between_none m ds cs x p q apart =
    let term : ℕ → ℕ = λ c. if slice_index ds c == p && slice_index cs c == q then slice_index x c else 0 in
    let none : (c : ℕ) → c < m → term c ≡ 0 = λ c l. let no = pair_no (slice_index ds c) (slice_index cs c) p q (apart c l) in rw no refl in
    sum_below-same m term (λ _. 0) none ∙ sum_below-zero m

-- the sum for a pair, named otherwise
between_at : (m : ℕ) (ds cs x : List ℕ) (p q r s : ℕ) → p ≡ r → q ≡ s → flow_between m ds cs x p q ≡ flow_between m ds cs x r s
between_at m ds cs x p q r s e f =
    ap (λ (k : ℕ). flow_between m ds cs x k q) e ∙ ap (λ (k : ℕ). flow_between m ds cs x r k) f

-- the first arcs have the debtors and the creditors that they had
pub record SamePairs (n n' : Obligations) : Type 0 where
  pub debtor : (k : ℕ) → k < length n.amounts → slice_index n'.debtors k ≡ slice_index n.debtors k
  pub creditor : (k : ℕ) → k < length n.amounts → slice_index n'.creditors k ≡ slice_index n.creditors k

to_new : (o n n' : Obligations) (c k : ℕ) → SamePairs n n' → k < length n.amounts → IsOnArc o n c k → IsOnArc o n' c k
to_new o n n' c k same l on = record { debtor = on.debtor ∙ sym (same.debtor k l); creditor = on.creditor ∙ sym (same.creditor k l) }

to_old : (o n n' : Obligations) (c k : ℕ) → SamePairs n n' → k < length n.amounts → IsOnArc o n' c k → IsOnArc o n c k
to_old o n n' c k same l on = record { debtor = on.debtor ∙ same.debtor k l; creditor = on.creditor ∙ same.creditor k l }

-- two arcs of one pair were so before
both_old : (n n' : Obligations) (a b : ℕ) → SamePairs n n' → a < length n.amounts → b < length n.amounts → IsOnArc n' n' a b
    → IsOnArc n n a b
both_old n n' a b same la lb on = record {
  debtor = sym (same.debtor a la) ∙ on.debtor ∙ same.debtor b lb;
  creditor = sym (same.creditor a la) ∙ on.creditor ∙ same.creditor b lb;
}

-- a claim is on one arc only
pub on_one_arc : (m : ℕ) (o n : Obligations) (c a b : ℕ) → IsMerged m o n → a < length n.amounts → b < length n.amounts
    → IsOnArc o n c a → IsOnArc o n c b → a ≡ b
on_one_arc m o n c a b net la lb at_a at_b =
    elim (cases_lt a b) as (λ _. a ≡ b) [
      | inl lt ↦ absurd (net.apart a b lt lb
          (record { debtor = sym at_a.debtor ∙ at_b.debtor; creditor = sym at_a.creditor ∙ at_b.creditor }))
      | inr le ↦ elim (cases_lt b a) as (λ _. a ≡ b) [
        | inl lt ↦ absurd (net.apart b a lt la
            (record { debtor = sym at_b.debtor ∙ at_a.debtor; creditor = sym at_b.creditor ∙ at_a.creditor }))
        | inr ge ↦ omega arith
      ]
    ]

-- another claim of the same pair is on the same arc
pub on_along : (o n : Obligations) (c d a : ℕ) → c ≡ d → IsOnArc o n c a → IsOnArc o n d a
on_along o n c d a e on = subst (λ (k : ℕ). IsOnArc o n k a) e on

along_arc : (o n : Obligations) (c a b : ℕ) → a ≡ b → IsOnArc o n c a → IsOnArc o n c b
along_arc o n c a b e on = subst (λ (k : ℕ). IsOnArc o n c k) e on

-- ---- the claim is on an arc that stands

module _ (m : ℕ) (o n n' : Obligations) (a : ℕ) (long : length n'.amounts ≡ length n.amounts) (same : SamePairs n n')
    (in' : a < length n.amounts)
    (more : slice_index n'.amounts a ≡ slice_index n.amounts a + slice_index o.amounts m)
    (rest : (k : ℕ) → k < length n.amounts → (k ≡ a → ⊥) → slice_index n'.amounts k ≡ slice_index n.amounts k)
    (on : IsOnArc o n m a) (net : IsMerged m o n) where
  grown_amount : (k : ℕ) → k < length n.amounts
      → slice_index n'.amounts k ≡ flow_between (suc m) o.debtors o.creditors o.amounts (slice_index n.debtors k)
      (slice_index n.creditors k)
  grown_amount k l =
      elim (cases_eq k a) as (λ _. slice_index n'.amounts k
      ≡ flow_between (suc m) o.debtors o.creditors o.amounts (slice_index n.debtors k) (slice_index n.creditors k)) [
        | inl e ↦
            let on_k = along_arc o n m a k (sym e) on in
            omega (
              arith,
              ap (λ (i : ℕ). slice_index n'.amounts i) e,
              ap (λ (i : ℕ). slice_index n.amounts i) e,
              more,
              net.amount k l,
              between_same m o.debtors o.creditors o.amounts (slice_index n.debtors k)
                  (slice_index n.creditors k) on_k.debtor on_k.creditor,
            )
        | inr ne ↦
            let other = between_other m o.debtors o.creditors o.amounts (slice_index n.debtors k)
            (slice_index n.creditors k) (λ d c. ne (on_one_arc m o n m k a net l in' (record { debtor = d; creditor = c }) on)) in
            omega (arith, rest k l ne, net.amount k l, other)
      ]

  grown_order : (i j c : ℕ) → i < j → j < length n.amounts → c < suc m → IsOnArc o n c j → (e : ℕ) × (e < c) × IsOnArc o n e i
  grown_order i j c lt l lc at_j =
      elim (cases_lt c m) as (λ _. (e : ℕ) × (e < c) × IsOnArc o n e i) [
        | inl before ↦ net.in_order i j c lt l before at_j
        | inr last ↦
            let first = net.claim_of j l in
            let e = net.in_order i j first.0 lt l first.1 first.2 in
            (e.0, omega (arith, e.1, first.1), e.2)
      ]

  grown_arc_of : (c : ℕ) → c < suc m → (k : ℕ) × (k < length n'.amounts) × IsOnArc o n' c k
  grown_arc_of c lc =
      elim (cases_lt c m) as (λ _. (k : ℕ) × (k < length n'.amounts) × IsOnArc o n' c k) [
        | inl before ↦ let arc = net.arc_of c before in (arc.0, omega (arith, arc.1), to_new o n n' c arc.0 same arc.1 arc.2)
        | inr last ↦ (a, omega arith, to_new o n n' c a same in' (on_along o n m c a (omega arith) on))
      ]

  pub merged_grown : IsMerged (suc m) o n'
  merged_grown = record {
    apart = λ i j lt l twin. net.apart i j lt (omega arith) (both_old n n' i j same (omega arith) (omega arith) twin);
    amount = λ k l. grown_amount k (omega arith)
        ∙ between_at (suc m) o.debtors o.creditors o.amounts _ _ _ _ (sym (same.debtor k (omega arith)))
        (sym (same.creditor k (omega arith)));
    arc_of = grown_arc_of;
    claim_of = λ k l. let claim = net.claim_of k (omega arith) in
        (claim.0, omega (arith, claim.1), to_new o n n' claim.0 k same (omega arith) claim.2);
    in_order = λ i j c lt l lc at_j.
        let e = grown_order i j c lt (omega arith) lc (to_old o n n' c j same (omega arith) at_j) in
        (e.0, e.1, to_new o n n' e.0 i same (omega arith) e.2);
  }

-- ---- the claim is on a new arc

module _ (m : ℕ) (o n n' : Obligations) (long : length n'.amounts ≡ length n.amounts + 1) (same : SamePairs n n')
    (rest : (k : ℕ) → k < length n.amounts → slice_index n'.amounts k ≡ slice_index n.amounts k)
    (on : IsOnArc o n' m (length n.amounts)) (whole : slice_index n'.amounts (length n.amounts) ≡ slice_index o.amounts m)
    (none : (k : ℕ) → k < length n.amounts → IsOnArc o n m k → ⊥) (net : IsMerged m o n) where
  -- no earlier claim is on the new arc
  no_earlier : (c k : ℕ) → c < m → k ≡ length n.amounts → IsOnArc o n' c k → ⊥
  no_earlier c k lc e at =
      let arc = net.arc_of c lc in
      let last = along_arc o n' c k (length n.amounts) e at in
      none arc.0 arc.1 (record {
        debtor = on.debtor ∙ sym last.debtor ∙ arc.2.debtor;
        creditor = on.creditor ∙ sym last.creditor ∙ arc.2.creditor;
      })

  pushed_amount : (k : ℕ) → k < length n'.amounts
      → slice_index n'.amounts k ≡ flow_between (suc m) o.debtors o.creditors o.amounts (slice_index n'.debtors k)
      (slice_index n'.creditors k)
  pushed_amount k l =
      elim (cases_lt k (length n.amounts))
      as (λ _. slice_index n'.amounts k
      ≡ flow_between (suc m) o.debtors o.creditors o.amounts (slice_index n'.debtors k) (slice_index n'.creditors k)) [
        | inl before ↦
            let other = between_other m o.debtors o.creditors o.amounts (slice_index n'.debtors k)
            (slice_index n'.creditors k) (λ d c. none k before (to_old o n n' m k same before (record { debtor = d; creditor = c }))) in
            omega (
              arith,
              rest k before,
              net.amount k before,
              other,
              between_at m o.debtors o.creditors o.amounts _ _ _ _ (same.debtor k before) (same.creditor k before),
            )
        | inr after ↦
            let e : k ≡ length n.amounts = omega arith in
            let on_k = along_arc o n' m (length n.amounts) k (sym e) on in
            let fresh = between_none m o.debtors o.creditors o.amounts (slice_index n'.debtors k)
            (slice_index n'.creditors k) (λ c lc d cr. no_earlier c k lc e (record { debtor = d; creditor = cr })) in
            omega (
              arith,
              fresh,
              between_same m o.debtors o.creditors o.amounts (slice_index n'.debtors k)
                  (slice_index n'.creditors k) on_k.debtor on_k.creditor,
              whole,
              ap (λ (i : ℕ). slice_index n'.amounts i) e,
            )
      ]

  pushed_apart : (i j : ℕ) → i < j → j < length n'.amounts → IsOnArc n' n' i j → ⊥
  pushed_apart i j lt l twin =
      elim (cases_lt j (length n.amounts)) as (λ _. ⊥) [
        | inl before ↦ net.apart i j lt before (both_old n n' i j same (omega arith) before twin)
        | inr after ↦
            let last = along_arc n' n' i j (length n.amounts) (omega arith) twin in
            none i (omega arith) (to_old o n n' m i same (omega arith)
            (record { debtor = on.debtor ∙ sym last.debtor; creditor = on.creditor ∙ sym last.creditor }))
      ]

  pushed_arc_of : (c : ℕ) → c < suc m → (k : ℕ) × (k < length n'.amounts) × IsOnArc o n' c k
  pushed_arc_of c lc =
      elim (cases_lt c m) as (λ _. (k : ℕ) × (k < length n'.amounts) × IsOnArc o n' c k) [
        | inl before ↦ let arc = net.arc_of c before in (arc.0, omega (arith, arc.1), to_new o n n' c arc.0 same arc.1 arc.2)
        | inr last ↦ (length n.amounts, omega arith, on_along o n' m c (length n.amounts) (omega arith) on)
      ]

  pushed_claim_of : (k : ℕ) → k < length n'.amounts → (c : ℕ) × (c < suc m) × IsOnArc o n' c k
  pushed_claim_of k l =
      elim (cases_lt k (length n.amounts)) as (λ _. (c : ℕ) × (c < suc m) × IsOnArc o n' c k) [
        | inl before ↦ let claim = net.claim_of k before in (claim.0, omega (arith, claim.1), to_new o n n' claim.0 k same before claim.2)
        | inr after ↦ (m, omega arith, along_arc o n' m (length n.amounts) k (omega arith) on)
      ]

  pushed_order : (i j c : ℕ) → i < j → j < length n'.amounts → c < suc m → IsOnArc o n' c j → (e : ℕ) × (e < c) × IsOnArc o n' e i
  pushed_order i j c lt l lc at_j =
      let i_old : i < length n.amounts = omega arith in
      elim (cases_lt c m) as (λ _. (e : ℕ) × (e < c) × IsOnArc o n' e i) [
        | inl before ↦ elim (cases_lt j (length n.amounts)) as (λ _. (e : ℕ) × (e < c) × IsOnArc o n' e i) [
          | inl old ↦ let e = net.in_order i j c lt old before (to_old o n n' c j same old at_j) in
              (e.0, e.1, to_new o n n' e.0 i same i_old e.2)
          | inr new ↦ absurd (no_earlier c j before (omega arith) at_j)
        ]
        | inr last ↦
            let claim = net.claim_of i i_old in
            (claim.0, omega (arith, claim.1), to_new o n n' claim.0 i same i_old claim.2)
      ]

  pub merged_pushed : IsMerged (suc m) o n'
  merged_pushed = record {
    apart = pushed_apart;
    amount = pushed_amount;
    arc_of = pushed_arc_of;
    claim_of = pushed_claim_of;
    in_order = pushed_order;
  }
