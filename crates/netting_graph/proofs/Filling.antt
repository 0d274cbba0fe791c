-- How a flow is spread, one claim after another.
use Rattle.std.specs.Prelude.{if◌then◌else◌, ◌==◌, ◌&&◌, slice_index, min}
use Rattle.std.proofs.Common.{◌≡◌, ℕ, suc, ◌+◌, ◌-◌, ◌<◌, ◌≤◌, List, [], ◌∷◌, ◌++◌, length, set, refl, sym, ◌∙◌, ap, inl, inr, add-one, arith}
use Rattle.std.proofs.Math.Seq.{get_or-append_seam}
use Rattle.std.proofs.Math.ListN.{get_or-append}
use Rattle.std.proofs.lemmas.List.{length-set, length-append, get_or-set_same, get_or-set_other}
use Rattle.std.proofs.lemmas.Bool.{cases_eq, cases_lt}
use Rattle.setoff_model.specs.Setoff.{Obligations}
use Rattle.setoff_model.proofs.Circulation.{sum_below-same}
use Rattle.netting_graph.specs.Merging.{flow_between, IsOnArc, IsMerged}
use Rattle.netting_graph.proofs.Crossing.{pair_no}
use Rattle.netting_graph.proofs.OneMore.{between_other, between_same, on_one_arc, on_along}

-- the first m claims have their discharges d, and of the flows so much is left
pub record Filled (m : ℕ) (o n : Obligations) (flows left d : List ℕ) : Type 0 where
  pub long : length d ≡ m
  pub left_long : length left ≡ length n.amounts
  pub within : (c : ℕ) → c < m → slice_index d c ≤ slice_index o.amounts c
  pub sums : (a : ℕ) → a < length n.amounts
      → slice_index left a + flow_between m o.debtors o.creditors d (slice_index n.debtors a) (slice_index n.creditors a)
      ≡ slice_index flows a
  pub full : (a c : ℕ) → a < length n.amounts → c < m → IsOnArc o n c a → 0 < slice_index left a → slice_index d c ≡ slice_index o.amounts c
  pub oldest : (a b : ℕ) → a < b → b < m → slice_index o.debtors a ≡ slice_index o.debtors b
      → slice_index o.creditors a ≡ slice_index o.creditors b → slice_index d a < slice_index o.amounts a → slice_index d b ≡ 0

-- sums of numbers that are the same below m
between_front : (m : ℕ) (ds cs x y : List ℕ) (p q : ℕ) → ((c : ℕ) → c < m → slice_index x c ≡ slice_index y c)
    → flow_between m ds cs x p q ≡ flow_between m ds cs y p q
between_front m ds cs x y p q same =
    let term : List ℕ → ℕ → ℕ = λ z c. if slice_index ds c == p && slice_index cs c == q then slice_index z c else 0 in
    sum_below-same m (term x) (term y) (λ c l. ap (λ (v : ℕ). if slice_index ds c == p && slice_index cs c == q then v else 0) (same c l))

module _ (m : ℕ) (o n : Obligations) (flows left left' d d' : List ℕ) (q x : ℕ) (M : ℕ) (net : IsMerged M o n)
    (in' : q < length n.amounts) (on : IsOnArc o n m q)
    (left_long : length left' ≡ length left) (taken : slice_index left' q + x ≡ slice_index left q)
    (rest : (k : ℕ) → (k ≡ q → ⊥) → slice_index left' k ≡ slice_index left k)
    (long : length d' ≡ suc m) (front : (c : ℕ) → c < m → slice_index d' c ≡ slice_index d c) (last : slice_index d' m ≡ x)
    (within : x ≤ slice_index o.amounts m) (most : x < slice_index o.amounts m → slice_index left' q ≡ 0)
    (filled : Filled m o n flows left d) where
  less_left : (a : ℕ) → slice_index left' a ≤ slice_index left a
  less_left a =
      elim (cases_eq a q) as (λ _. slice_index left' a ≤ slice_index left a) [
        | inl e ↦ omega (arith, ap (λ (k : ℕ). slice_index left' k) e, ap (λ (k : ℕ). slice_index left k) e, taken)
        | inr ne ↦ omega (arith, rest a ne)
      ]

  new_within : (c : ℕ) → c < suc m → slice_index d' c ≤ slice_index o.amounts c
  new_within c l =
      elim (cases_eq c m) as (λ _. slice_index d' c ≤ slice_index o.amounts c) [
        | inl e ↦ omega (arith, ap (λ (k : ℕ). slice_index d' k) e, ap (λ (k : ℕ). slice_index o.amounts k) e, last, within)
        | inr ne ↦ omega (arith, front c (omega arith), filled.within c (omega arith))
      ]

  new_sums : (a : ℕ) → a < length n.amounts
      → slice_index left' a + flow_between (suc m) o.debtors o.creditors d' (slice_index n.debtors a) (slice_index n.creditors a)
      ≡ slice_index flows a
  new_sums a l =
      let p = slice_index n.debtors a in
      let r = slice_index n.creditors a in
      let same = between_front m o.debtors o.creditors d' d p r front in
      elim (cases_eq a q) as (λ _. slice_index left' a + flow_between (suc m) o.debtors o.creditors d' p r ≡ slice_index flows a) [
        | inl e ↦
            let more = between_same m o.debtors o.creditors d' p r
            (on.debtor ∙ ap (λ (k : ℕ). slice_index n.debtors k) (sym e))
            (on.creditor ∙ ap (λ (k : ℕ). slice_index n.creditors k) (sym e)) in
            omega (
              arith,
              more,
              same,
              last,
              taken,
              ap (λ (k : ℕ). slice_index left' k) e,
              ap (λ (k : ℕ). slice_index left k) e,
              filled.sums a l,
            )
        | inr ne ↦
            let other = between_other m o.debtors o.creditors d' p r
            (λ dd cc. ne (on_one_arc M o n m a q net l in' (record { debtor = dd; creditor = cc }) on)) in
            omega (arith, other, same, rest a ne, filled.sums a l)
      ]

  new_full : (a c : ℕ) → a < length n.amounts → c < suc m → IsOnArc o n c a → 0 < slice_index left' a
      → slice_index d' c ≡ slice_index o.amounts c
  new_full a c la l on_a some =
      elim (cases_eq c m) as (λ _. slice_index d' c ≡ slice_index o.amounts c) [
        | inl e ↦
            let one : a ≡ q = on_one_arc M o n m a q net la in' (on_along o n c m a e on_a) on in
            elim (cases_lt x (slice_index o.amounts m)) as (λ _. slice_index d' c ≡ slice_index o.amounts c) [
              | inl below ↦ absurd (omega (arith, ap (λ (k : ℕ). slice_index left' k) one, most below, some))
              | inr whole ↦ omega (
                arith,
                ap (λ (k : ℕ). slice_index d' k) e,
                ap (λ (k : ℕ). slice_index o.amounts k) e,
                last,
                within,
                whole,
              )
            ]
        | inr ne ↦ front c (omega arith) ∙ filled.full a c la (omega arith) on_a (omega (arith, less_left a))
      ]

  new_oldest : (a b : ℕ) → a < b → b < suc m → slice_index o.debtors a ≡ slice_index o.debtors b
      → slice_index o.creditors a ≡ slice_index o.creditors b → slice_index d' a < slice_index o.amounts a → slice_index d' b ≡ 0
  new_oldest a b lt l debtor creditor below =
      elim (cases_eq b m) as (λ _. slice_index d' b ≡ 0) [
        | inl e ↦
            let on_q : IsOnArc o n a q = record {
              debtor = debtor ∙ ap (λ (k : ℕ). slice_index o.debtors k) e ∙ on.debtor;
              creditor = creditor ∙ ap (λ (k : ℕ). slice_index o.creditors k) e ∙ on.creditor;
            } in
            let none : 0 < slice_index left q → ⊥ =
            λ some. let whole = filled.full q a in' (omega arith) on_q some in absurd (omega (arith, whole, front a (omega arith))) in
            elim (cases_lt 0 (slice_index left q)) as (λ _. slice_index d' b ≡ 0) [
              | inl some ↦ absurd (none some)
              | inr empty ↦ omega (arith, ap (λ (k : ℕ). slice_index d' k) e, last, taken)
            ]
        | inr ne ↦ front b (omega arith) ∙ filled.oldest a b lt (omega arith) debtor creditor (omega (arith, front a (omega arith)))
      ]

  pub filled_next : Filled (suc m) o n flows left' d'
  filled_next = record {
    long = long;
    left_long = left_long ∙ filled.left_long;
    within = new_within;
    sums = new_sums;
    full = new_full;
    oldest = new_oldest;
  }

-- the next claim takes what is left on its arc, up to its amount
pub filled_more : (m : ℕ) (o n : Obligations) (flows left d : List ℕ) (q x M : ℕ) → IsMerged M o n → q < length n.amounts
    → IsOnArc o n m q → x ≡ min (slice_index left q) (slice_index o.amounts m) →
    Filled m o n flows left d → Filled (m + 1) o n flows (set left q (slice_index left q - x)) (d ++ x ∷ [])
filled_more m o n flows left d q x M net in' on is filled =
    let left' = set left q (slice_index left q - x) in
    let at : slice_index left' q ≡ slice_index left q - x =
    get_or-set_same left q (slice_index left q - x) 0 (omega (arith, filled.left_long)) in
    let end : m ≡ length d = sym filled.long in
    rw add-one (filled_next m o n flows left left' d (d ++ x ∷ []) q x M net in' on
    (length-set left q (slice_index left q - x)) (omega (arith, at, is)) (λ k ne. get_or-set_other left q k (slice_index left q - x) 0 ne)
    (omega (arith, length-append d (x ∷ []), filled.long)) (λ c l. get_or-append d (x ∷ []) 0 c (omega arith))
    (ap (λ (k : ℕ). slice_index (d ++ x ∷ []) k) end ∙ get_or-append_seam d x [] 0)
    (omega (arith, is)) (λ below. omega (arith, at, is, below)) filled)

-- after the last claim nothing is left
pub all_spread : (m : ℕ) (o n : Obligations) (flows left d : List ℕ) → IsMerged m o n → Filled m o n flows left d
    → ((a : ℕ) → a < length n.amounts → slice_index flows a ≤ slice_index n.amounts a) →
    (a : ℕ) → a < length n.amounts
    → flow_between m o.debtors o.creditors d (slice_index n.debtors a) (slice_index n.creditors a) ≡ slice_index flows a
all_spread m o n flows left d net filled within a l =
    let p = slice_index n.debtors a in
    let r = slice_index n.creditors a in
    let term : List ℕ → ℕ → ℕ = λ z c. if slice_index o.debtors c == p && slice_index o.creditors c == r then slice_index z c else 0 in
    elim (cases_lt 0 (slice_index left a)) as (λ _. flow_between m o.debtors o.creditors d p r ≡ slice_index flows a) [
      | inl some ↦
          let whole : (c : ℕ) → c < m → term d c ≡ term o.amounts c =
          λ c lc. if_same (slice_index o.debtors c) (slice_index o.creditors c) p r (slice_index d c)
          (slice_index o.amounts c) (λ dd cc. filled.full a c l lc (record { debtor = dd; creditor = cc }) some) in
          omega (arith, sum_below-same m (term d) (term o.amounts) whole, net.amount a l, within a l, filled.sums a l)
      | inr none ↦ omega (arith, filled.sums a l)
    ]
  where
    if_same : (s t p r u v : ℕ) → (s ≡ p → t ≡ r → u ≡ v) → (if s == p && t == r then u else 0) ≡ (if s == p && t == r then v else 0)
    if_same s t p r u v h =
        elim (cases_eq s p) as (λ _. (if s == p && t == r then u else 0) ≡ (if s == p && t == r then v else 0)) [
          | inl e ↦ elim (cases_eq t r) as (λ _. (if s == p && t == r then u else 0) ≡ (if s == p && t == r then v else 0)) [
            | inl f ↦ ap (λ (w : ℕ). if s == p && t == r then w else 0) (h e f)
            | inr nf ↦ let none = pair_no s t p r (λ _ f. nf f) in rw none refl
          ]
          | inr ne ↦ let none = pair_no s t p r (λ e _. ne e) in rw none refl
        ]
