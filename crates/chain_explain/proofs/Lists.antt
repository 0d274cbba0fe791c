-- A list with one place written, sums above 0, and numbers that differ.
use Rattle.std.specs.Prelude.{slice_index, if◌then◌else◌, ◌==◌}
use Rattle.std.proofs.Common.{◌≡◌, ◌≢◌, ◌⊎◌, ℕ, zero, suc, ◌<◌, ◌≤◌, List, length, set, refl, sym, ◌∙◌, ap, subst, inl, inr, arith, get_or-set_same, get_or-set_other}
use Rattle.std.proofs.lemmas.Bool.{cases_eq, cases_lt}
use Rattle.std.proofs.lemmas.Bool.Decides.{nat_tests}
use Rattle.setoff_model.specs.Sums.{sum_below}
use Rattle.setoff_model.proofs.Circulation.{sum_below-le, sum_below-none}
use Rattle.setoff_model.proofs.Sums.{all_flow, choose_no}

-- what is read where one place was written
pub set_cases : (xs : List ℕ) (p v f : ℕ) → p < length xs →
    ((f ≡ p) × (slice_index (set xs p v) f ≡ v)) ⊎ ((f ≢ p) × (slice_index (set xs p v) f ≡ slice_index xs f))
set_cases xs p v f in' =
    elim (cases_eq f p) as (λ _. ((f ≡ p) × (slice_index (set xs p v) f ≡ v)) ⊎ ((f ≢ p) × (slice_index (set xs p v) f ≡ slice_index xs f))) [
      | inl e ↦ inl (e, ap (λ (k : ℕ). slice_index (set xs p v) k) e ∙ get_or-set_same xs p v 0 in')
      | inr ne ↦ inr (ne, get_or-set_other xs p f v 0 ne)
    ]

-- a sum above 0 has a term above 0
pub sum_below-some : (n : ℕ) (g : ℕ → ℕ) → 0 < sum_below n g → (k : ℕ) × (k < n) × (0 < g k)
sum_below-some zero g some = absurd (omega arith)
sum_below-some (suc n) g some =
    elim (cases_lt 0 (g n)) as (λ _. (k : ℕ) × (k < suc n) × (0 < g k)) [
      | inl here ↦ (n, omega arith, here)
      | inr none ↦ let e = sum_below-some n g (omega (arith, none)) in (e.0, omega (arith, e.1), e.2)
    ]

-- each term is within the sum
pub sum_below-term : (n k : ℕ) (g : ℕ → ℕ) → k < n → g k ≤ sum_below n g
sum_below-term zero k g in' = absurd (omega arith)
sum_below-term (suc n) k g in' =
    elim (cases_eq n k) as (λ _. g k ≤ sum_below (suc n) g) [
      | inl e ↦ subst (λ (j : ℕ). g j ≤ sum_below (suc n) g) e (omega arith)
      | inr ne ↦ let i : n ≢ k = ne in omega (arith, sum_below-term n k g (omega (arith, i)))
    ]

pub sum_below-ones : (n : ℕ) → sum_below n (λ _. 1) ≡ n
sum_below-ones zero = refl
sum_below-ones (suc n) = omega (arith, sum_below-ones n)

-- numbers below n of which no two are the same are at most n
at_most_once : (k f : ℕ) (at : ℕ → ℕ) → ((i j : ℕ) → i < j → j < k → at i ≢ at j) → sum_below k (λ i. if at i == f then 1 else 0) ≤ 1
at_most_once zero f at apart = omega arith
at_most_once (suc k) f at apart =
    elim (cases_eq (at k) f) as (λ _. sum_below (suc k) (λ i. if at i == f then 1 else 0) ≤ 1) [
      | inl e ↦
          let none = sum_below-none k (λ i. if at i == f then 1 else 0) (λ i lt. choose_no (at i) f 1 (λ s. apart i k lt (omega arith) (s ∙ sym e))) in
          let one : (if at k == f then 1 else 0) ≤ 1 = grind (arith, nat_tests) in
          omega (arith, none, one)
      | inr ne ↦
          let none = choose_no (at k) f 1 ne in
          omega (arith, none, at_most_once k f at (λ i j lt in'. apart i j lt (omega arith)))
    ]

pub few_below : (k n : ℕ) (at : ℕ → ℕ) → ((i : ℕ) → i < k → at i < n) → ((i j : ℕ) → i < j → j < k → at i ≢ at j) → k ≤ n
few_below k n at within apart =
    let all = all_flow k n at (λ _. 1) within in
    let each = sum_below-le n (λ f. sum_below k (λ i. if at i == f then 1 else 0)) (λ _. 1) (λ f _. at_most_once k f at apart) in
    omega (arith, all, each, sum_below-ones k, sum_below-ones n)
