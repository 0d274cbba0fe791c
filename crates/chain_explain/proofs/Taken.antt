-- What is left once a chain is taken off, and that it is less.
use Rattle.std.specs.Prelude.{slice_index, if◌then◌else◌, ◌==◌, min}
use Rattle.std.proofs.Common.{◌≡◌, ◌≢◌, ◌⊎◌, ℕ, zero, suc, ◌+◌, ◌-◌, ◌<◌, ◌≤◌, List, length, set, refl, sym, ◌∙◌, ap, subst, inl, inr, arith}
use Rattle.std.proofs.Math.ListN.{length-set}
use Rattle.std.proofs.lemmas.Bool.{cases_eq, eq-eqb, ne_eqb}
use Rattle.setoff_model.specs.Sums.{sum_below}
use Rattle.setoff_model.specs.Setoff.{Obligations, inflow, outflow}
use Rattle.setoff_model.proofs.Circulation.{sum_below-le}
use Rattle.chain_explain.specs.Explained.{one_above, claims_left, parties_left}
use Rattle.chain_explain.specs.Walks.{AreLeft, IsCarried}
use Rattle.chain_explain.proofs.Lists.{set_cases}

-- ---- in balance

-- what is taken from the parties and brought to them leaves the balance
left_after : (o : Obligations) (rests begins ends new begins' ends' : List ℕ) (b e : ℕ → ℕ) → AreLeft o rests begins ends →
    length new ≡ length rests → length begins' ≡ length begins → length ends' ≡ length ends →
    ((f : ℕ) → outflow o rests f + inflow o new f + e f ≡ inflow o rests f + outflow o new f + b f) →
    ((f : ℕ) → slice_index begins f ≡ slice_index begins' f + b f) → ((f : ℕ) → slice_index ends f ≡ slice_index ends' f + e f) →
    AreLeft o new begins' ends'
left_after o rests begins ends new begins' ends' b e left many_rests many_begins many_ends carried began ended = record {
  rest_each = many_rests ∙ left.rest_each;
  begin_each = many_begins ∙ left.begin_each;
  end_each = many_ends ∙ left.end_each;
  even = λ f lt. let x = carried f in let y = began f in let z = ended f in let w = left.even f lt in omega (arith, x, y, z, w);
  one_side = λ f lt. elim (left.one_side f lt) as (λ _. (slice_index begins' f ≡ 0) ⊎ (slice_index ends' f ≡ 0)) [
    | inl none ↦ let y = began f in inl (omega (arith, y, none))
    | inr none ↦ let z = ended f in inr (omega (arith, z, none))
  ];
}

pub closed_left : (o : Obligations) (rests begins ends new : List ℕ) (from at a : ℕ) → AreLeft o rests begins ends → length new ≡ length rests →
    IsCarried o rests new from at a → at ≡ from → AreLeft o new begins ends
closed_left o rests begins ends new from at a left many carried back =
    left_after o rests begins ends new begins ends (λ _. 0) (λ _. 0) left many refl refl
    (λ f. let x = carried f in let y : (if at == f then a else 0) ≡ (if from == f then a else 0) = ap (λ (p : ℕ). if p == f then a else 0) back in omega (arith, x, y))
    (λ f. omega arith) (λ f. omega arith)

-- one place lowered by the amount
pub lowered_at : (xs : List ℕ) (p a : ℕ) → p < length xs → a ≤ slice_index xs p → (f : ℕ) →
    slice_index xs f ≡ slice_index (set xs p (slice_index xs p - a)) f + (if p == f then a else 0)
lowered_at xs p a in' enough f =
    let v = slice_index xs p - a in
    elim (set_cases xs p v f in') as (λ _. slice_index xs f ≡ slice_index (set xs p v) f + (if p == f then a else 0)) [
      | inl s ↦ let was : slice_index xs f ≡ slice_index xs p = ap (λ k. slice_index xs k) s.0 in rw (eq-eqb p f (sym s.0)) (omega (arith, was, s.1, enough))
      | inr s ↦ rw (ne_eqb p f (λ e. s.0 (sym e))) (omega (arith, s.1))
    ]

pub open_left : (o : Obligations) (rests begins ends new : List ℕ) (from at a : ℕ) → AreLeft o rests begins ends → length new ≡ length rests →
    IsCarried o rests new from at a → from < length begins → at < length ends → a ≤ slice_index begins from → a ≤ slice_index ends at →
    AreLeft o new (set begins from (slice_index begins from - a)) (set ends at (slice_index ends at - a))
open_left o rests begins ends new from at a left many carried from_in at_in some_begun some_ended =
    left_after o rests begins ends new (set begins from (slice_index begins from - a)) (set ends at (slice_index ends at - a))
    (λ f. if from == f then a else 0) (λ f. if at == f then a else 0) left many (length-set begins from (slice_index begins from - a)) (length-set ends at (slice_index ends at - a))
    carried (lowered_at begins from a from_in some_begun) (lowered_at ends at a at_in some_ended)

-- ---- less

more_above : (a b : ℕ) → a ≤ b → one_above a ≤ one_above b
more_above zero b le = omega arith
more_above (suc a) zero le = absurd (omega arith)
more_above (suc a) (suc b) le = omega arith

now_none : (a b : ℕ) → a ≡ 0 → 0 < b → one_above a < one_above b
now_none a zero none some = absurd (omega arith)
now_none zero (suc b) none some = omega arith
now_none (suc a) (suc b) none some = absurd (omega arith)

-- where no term rises and one falls, the sum falls
sum_below-less : (n k : ℕ) (g h : ℕ → ℕ) → ((i : ℕ) → i < n → h i ≤ g i) → k < n → h k < g k → sum_below n h < sum_below n g
sum_below-less zero k g h le in' less = absurd (omega arith)
sum_below-less (suc n) k g h le in' less =
    elim (cases_eq n k) as (λ _. sum_below (suc n) h < sum_below (suc n) g) [
      | inl e ↦
          let here : h n < g n = subst (λ (j : ℕ). h j < g j) (sym e) less in
          omega (arith, here, sum_below-le n h g (λ i lt. le i (omega arith)))
      | inr ne ↦
          let apart : n ≢ k = ne in
          omega (arith, sum_below-less n k g h (λ i lt. le i (omega arith)) (omega (arith, apart)) less, le n (omega arith))
    ]

module _ (o : Obligations) where
  pub claims_no_more : (old new : List ℕ) → ((c : ℕ) → slice_index new c ≤ slice_index old c) → claims_left o new ≤ claims_left o old
  claims_no_more old new le = sum_below-le (length o.amounts) (λ c. one_above (slice_index new c)) (λ c. one_above (slice_index old c)) (λ c _. more_above (slice_index new c) (slice_index old c) (le c))

  pub claim_met : (old new : List ℕ) (k : ℕ) → ((c : ℕ) → slice_index new c ≤ slice_index old c) → k < length o.amounts → 0 < slice_index old k → slice_index new k ≡ 0 →
      claims_left o new < claims_left o old
  claim_met old new k le in' some none = sum_below-less (length o.amounts) k (λ c. one_above (slice_index old c)) (λ c. one_above (slice_index new c)) (λ c _. more_above (slice_index new c) (slice_index old c) (le c)) in' (now_none (slice_index new k) (slice_index old k) none some)

  module _ (begins ends begins' ends' : List ℕ) (began : (f : ℕ) → slice_index begins' f ≤ slice_index begins f) (ended : (f : ℕ) → slice_index ends' f ≤ slice_index ends f) where
    each : (f : ℕ) → f < length o.spends → one_above (slice_index begins' f + slice_index ends' f) ≤ one_above (slice_index begins f + slice_index ends f)
    each f _ = more_above (slice_index begins' f + slice_index ends' f) (slice_index begins f + slice_index ends f) (omega (arith, began f, ended f))

    pub parties_no_more : parties_left o begins' ends' ≤ parties_left o begins ends
    parties_no_more = sum_below-le (length o.spends) (λ f. one_above (slice_index begins' f + slice_index ends' f)) (λ f. one_above (slice_index begins f + slice_index ends f)) each

    pub party_met : (k : ℕ) → k < length o.spends → 0 < slice_index begins k + slice_index ends k → slice_index begins' k + slice_index ends' k ≡ 0 →
        parties_left o begins' ends' < parties_left o begins ends
    party_met k in' some none = sum_below-less (length o.spends) k (λ f. one_above (slice_index begins f + slice_index ends f)) (λ f. one_above (slice_index begins' f + slice_index ends' f)) each in'
        (now_none (slice_index begins' k + slice_index ends' k) (slice_index begins k + slice_index ends k) none some)

-- the least of three is one of them
pub least_of_three : (x y z a : ℕ) → a ≡ min (min x y) z → ((a ≤ x) × (a ≤ y) × (a ≤ z)) × ((a ≡ x) ⊎ ((a ≡ y) ⊎ (a ≡ z)))
least_of_three x y z a is = (
  (omega arith, omega arith, omega arith),
  elim (cases_eq a x) as (λ _. (a ≡ x) ⊎ ((a ≡ y) ⊎ (a ≡ z))) [
    | inl e ↦ inl e
    | inr ne ↦ inr (elim (cases_eq a y) as (λ _. (a ≡ y) ⊎ (a ≡ z)) [
      | inl e ↦ inl e
      | inr other ↦ let p : a ≢ x = ne in let q : a ≢ y = other in inr (omega (arith, p, q))
    ])
  ],
)

-- an open chain with the largest amount leaves less
pub open_falls : (o : Obligations) (rests begins ends new : List ℕ) (from at a k : ℕ) → AreLeft o rests begins ends → ((c : ℕ) → slice_index new c ≤ slice_index rests c) →
    from < length o.spends → at < length o.spends → a ≤ slice_index begins from → a ≤ slice_index ends at → 0 < slice_index begins from → 0 < slice_index ends at →
    k < length o.amounts → 0 < slice_index rests k →
    ((slice_index new k ≡ 0) ⊎ ((a ≡ slice_index begins from) ⊎ (a ≡ slice_index ends at))) →
    claims_left o new + parties_left o (set begins from (slice_index begins from - a)) (set ends at (slice_index ends at - a)) < claims_left o rests + parties_left o begins ends
open_falls o rests begins ends new from at a k left le from_in at_in enough_begun enough_ended begun ended k_in held met =
    let begins' = set begins from (slice_index begins from - a) in
    let ends' = set ends at (slice_index ends at - a) in
    let b = lowered_at begins from a (omega (arith, left.begin_each, from_in)) enough_begun in
    let e = lowered_at ends at a (omega (arith, left.end_each, at_in)) enough_ended in
    let began : (f : ℕ) → slice_index begins' f ≤ slice_index begins f = λ f. let x = b f in omega (arith, x) in
    let ended' : (f : ℕ) → slice_index ends' f ≤ slice_index ends f = λ f. let x = e f in omega (arith, x) in
    let claims = claims_no_more o rests new le in
    let parties = parties_no_more o begins ends begins' ends' began ended' in
    elim met as (λ _. claims_left o new + parties_left o (set begins from (slice_index begins from - a)) (set ends at (slice_index ends at - a)) < claims_left o rests + parties_left o begins ends) [
      | inl none ↦ let less = claim_met o rests new k le k_in held none in omega (arith, less, parties)
      | inr one ↦ elim one as (λ _. claims_left o new + parties_left o (set begins from (slice_index begins from - a)) (set ends at (slice_index ends at - a)) < claims_left o rests + parties_left o begins ends) [
        | inl all ↦
            let none : slice_index begins' from ≡ 0 = at_place begins from a (omega (arith, left.begin_each, from_in)) all in
            let other : slice_index ends from ≡ 0 = elim (left.one_side from from_in) as (λ _. slice_index ends from ≡ 0) [ inl z ↦ absurd (omega (arith, z, begun)) | inr z ↦ z ] in
            let less = party_met o begins ends begins' ends' began ended' from from_in (omega (arith, begun)) (let x = ended' from in omega (arith, none, other, x)) in
            omega (arith, less, claims)
        | inr all ↦
            let none : slice_index ends' at ≡ 0 = at_place ends at a (omega (arith, left.end_each, at_in)) all in
            let other : slice_index begins at ≡ 0 = elim (left.one_side at at_in) as (λ _. slice_index begins at ≡ 0) [ inl z ↦ z | inr z ↦ absurd (omega (arith, z, ended)) ] in
            let less = party_met o begins ends begins' ends' began ended' at at_in (omega (arith, ended)) (let x = began at in omega (arith, none, other, x)) in
            omega (arith, less, claims)
      ]
    ]
  where
    at_place : (xs : List ℕ) (p a : ℕ) → p < length xs → a ≡ slice_index xs p → slice_index (set xs p (slice_index xs p - a)) p ≡ 0
    at_place xs p a in' all =
        elim (set_cases xs p (slice_index xs p - a) p in') as (λ _. slice_index (set xs p (slice_index xs p - a)) p ≡ 0) [
          | inl s ↦ omega (arith, s.1, all)
          | inr s ↦ absurd (s.0 refl)
        ]
