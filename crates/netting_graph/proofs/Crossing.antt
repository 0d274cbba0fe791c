-- A sum over the arcs is the sum over their claims.
use Rattle.std.specs.Prelude.{if◌then◌else◌, ◌==◌, ◌&&◌, true, false}
use Rattle.std.proofs.Common.{◌≡◌, ℕ, zero, suc, ◌+◌, ◌*◌, ◌<◌, refl, sym, ◌∙◌, ap, inl, inr, arith}
use Rattle.std.proofs.lemmas.Bool.{cases_eq, eq-eqb, ne_eqb}
use Rattle.setoff_model.specs.Sums.{sum_below}
use Rattle.setoff_model.proofs.Circulation.{sum_below-same, sum_below-add, sum_below-zero}

-- both places are the same
pub pair_yes : (p q r s : ℕ) → p ≡ r → q ≡ s → (p == r && q == s) ≡ true
pair_yes p q r s e f = rw (eq-eqb p r e, eq-eqb q s f) refl

-- one place is another
pub pair_no : (p q r s : ℕ) → (p ≡ r → q ≡ s → ⊥) → (p == r && q == s) ≡ false
pair_no p q r s apart =
    elim (cases_eq p r) as (λ _. (p == r && q == s) ≡ false) [
      | inl e ↦
          let no = ne_eqb q s (λ f. apart e f) in
          let yes = eq-eqb p r e in
          rw (yes, no) refl
      | inr ne ↦ let no = ne_eqb p r ne in rw no refl
    ]

-- where all terms but one are 0, that one is the sum
pub only_term : (n : ℕ) (g : ℕ → ℕ) (q : ℕ) → q < n → ((a : ℕ) → a < n → (a ≡ q → ⊥) → g a ≡ 0) → sum_below n g ≡ g q
only_term zero g q in' none = absurd (omega arith)
only_term (suc n) g q in' none =
    elim (cases_eq n q) as (λ _. sum_below (suc n) g ≡ g q) [
      | inl e ↦
          let rest = sum_below-same n g (λ _. 0) (λ a l. none a (omega arith) (omega arith)) in
          omega (arith, rest, sum_below-zero n, ap g e)
      | inr ne ↦
          let last = none n (omega arith) ne in
          omega (arith, last, only_term n g q (omega arith) (λ a l ne2. none a (omega arith) ne2))
    ]

-- one claim adds what it is weighed to the one arc of its pair
one_claim : (n : ℕ) (ad ac : ℕ → ℕ) (w : ℕ → ℕ → ℕ) (p q x a : ℕ) → a < n → p ≡ ad a → q ≡ ac a →
    ((b : ℕ) → b < n → (b ≡ a → ⊥) → p ≡ ad b → q ≡ ac b → ⊥) →
    sum_below n (λ b. w (ad b) (ac b) * (if p == ad b && q == ac b then x else 0)) ≡ w p q * x
one_claim n ad ac w p q x a in' debtor creditor apart =
    let here = pair_yes p q (ad a) (ac a) debtor creditor in
    let term : ℕ → ℕ = λ b. w (ad b) (ac b) * (if p == ad b && q == ac b then x else 0) in
    let elsewhere : (b : ℕ) → b < n → (b ≡ a → ⊥) → term b ≡ 0 =
    λ b l ne. let no = pair_no p q (ad b) (ac b) (apart b l ne) in rw no (omega arith) in
    let at : term a ≡ w p q * x = rw (here, ← debtor, ← creditor) refl in
    only_term n term a in' elsewhere ∙ at

-- a sum over the arcs, weighed by the debtor and the creditor, is the same sum over the claims
pub crossing : (m n : ℕ) (cd cc ad ac : ℕ → ℕ) (w : ℕ → ℕ → ℕ) (x : ℕ → ℕ) →
    ((c : ℕ) → c < m → (a : ℕ) × (a < n) × (cd c ≡ ad a) × (cc c ≡ ac a)) →
    ((a b : ℕ) → a < n → b < n → ad a ≡ ad b → ac a ≡ ac b → a ≡ b) →
    sum_below n (λ a. w (ad a) (ac a) * sum_below m (λ c. if cd c == ad a && cc c == ac a then x c else 0))
    ≡ sum_below m (λ c. w (cd c) (cc c) * x c)
crossing zero n cd cc ad ac w x has apart = sum_below-same n _ (λ _. 0) (λ k _. omega arith) ∙ sum_below-zero n
crossing (suc m) n cd cc ad ac w x has apart =
    let hit : ℕ → ℕ → ℕ = λ c a. if cd c == ad a && cc c == ac a then x c else 0 in
    let arc = has m (omega arith) in
    let split = sum_below-add n (λ a. w (ad a) (ac a) * sum_below m (λ c. if cd c == ad a && cc c == ac a then x c else 0))
    (λ a. w (ad a) (ac a) * (if cd m == ad a && cc m == ac a then x m else 0)) in
    let apart' = sum_below-same n
    (λ a. w (ad a) (ac a) * sum_below (suc m) (λ c. if cd c == ad a && cc c == ac a then x c else 0))
    (λ a. w (ad a) (ac a) * sum_below m (λ c. if cd c == ad a && cc c == ac a then x c else 0)
    + w (ad a) (ac a) * (if cd m == ad a && cc m == ac a then x m else 0)) (λ k _. omega arith) in
    let last = one_claim n ad ac w (cd m) (cc m) (x m) arc.0 arc.1 arc.2 arc.3
    (λ b l ne d c. ne (apart b arc.0 l arc.1 (sym d ∙ arc.2) (sym c ∙ arc.3))) in
    omega (arith, split, apart', crossing m n cd cc ad ac w x (λ c l. has c (omega arith)) apart, last)
