-- A trail of claims of which each is lowered in turn.
use Rattle.std.specs.Prelude.{slice_index, if◌then◌else◌, ◌==◌}
use Rattle.std.specs.List.{list_any}
use Rattle.std.proofs.Common.{◌≡◌, ◌≢◌, ◌⊎◌, ℕ, zero, suc, ◌+◌, ◌-◌, ◌<◌, ◌≤◌, true, false, ◌||◌, List, [], ◌∷◌, length, set, refl, sym, ◌∙◌, ap, subst, inl, inr, add-one, arith, get_or-set_other}
use Rattle.std.proofs.lemmas.Bool.{cases_eq, eq-eqb, ne_eqb}
use Rattle.setoff_model.specs.Setoff.{Obligations}
use Rattle.setoff_model.proofs.Sums.{flow_at-set}
use Rattle.chain_explain.specs.Chains.{IsTrail, debtor_at, first_debtor}
use Rattle.chain_explain.specs.Walks.{IsCarried, IsLowered, stand}
use Rattle.chain_explain.proofs.Lists.{set_cases}

shared : (p f x y a : ℕ) → x ≡ y + a → (if p == f then x else 0) ≡ (if p == f then y else 0) + (if p == f then a else 0)
shared p f x y a e = elim (cases_eq p f) as (λ _. (if p == f then x else 0) ≡ (if p == f then y else 0) + (if p == f then a else 0)) [
  | inl s ↦ rw (eq-eqb p f s) e
  | inr s ↦ rw (ne_eqb p f s) (omega arith)
]

-- a claim that is lowered by the amount brings it from its debtor to its creditor
carried_on : (o : Obligations) (old rests : List ℕ) (k a from at : ℕ) → k < length o.amounts → k < length rests → a ≤ slice_index rests k →
    slice_index o.debtors k ≡ at → IsCarried o old rests from at a → IsCarried o old (set rests k (slice_index rests k - a)) from (slice_index o.creditors k) a
carried_on o old rests k a from at in' within enough owed is f =
    let m = length o.amounts in
    let y = slice_index rests k - a in
    let out = flow_at-set m o.debtors rests k y f in' within in
    let to = flow_at-set m o.creditors rests k y f in' within in
    let split : slice_index rests k ≡ y + a = omega (arith, enough) in
    let out_part = shared (slice_index o.debtors k) f (slice_index rests k) y a split in
    let in_part = shared (slice_index o.creditors k) f (slice_index rests k) y a split in
    let was : (if slice_index o.debtors k == f then a else 0) ≡ (if at == f then a else 0) = ap (λ (p : ℕ). if p == f then a else 0) owed in
    omega (arith, out, to, out_part, in_part, was, is f)

-- the debtor of a claim of a trail is where the trail has come to
stands : (o : Obligations) (chain : List ℕ) (i : ℕ) → IsTrail o chain → i < length chain → debtor_at o chain i ≡ stand o chain (first_debtor o chain) i
stands o chain zero is in' = refl
stands o chain (suc i) is in' = sym (is.linked i in')

-- one claim more is lowered
module _ (o : Obligations) (old rests chain : List ℕ) (a i : ℕ) (is : IsTrail o chain) (in' : i < length chain) (each : length rests ≡ length o.amounts)
    (least : a ≤ slice_index old (slice_index chain i))
    (of_each : (j : ℕ) → j < i → slice_index old (slice_index chain j) ≡ slice_index rests (slice_index chain j) + a)
    (of_none : (c : ℕ) → ((j : ℕ) → j < i → slice_index chain j ≢ c) → slice_index rests c ≡ slice_index old c)
    (carried : IsCarried o old rests (first_debtor o chain) (stand o chain (first_debtor o chain) i) a) where
  untouched : slice_index rests (slice_index chain i) ≡ slice_index old (slice_index chain i)
  untouched = of_none (slice_index chain i) (λ j lt same. is.once j i lt in' (ap (λ c. slice_index o.debtors c) same))

  within : slice_index chain i < length rests
  within = omega (arith, each, is.places i in')

  pub of_each_more : (j : ℕ) → j < i + 1 → slice_index old (slice_index chain j) ≡ slice_index (set rests (slice_index chain i) (slice_index rests (slice_index chain i) - a)) (slice_index chain j) + a
  of_each_more j lt =
      let v = slice_index rests (slice_index chain i) - a in
      elim (set_cases rests (slice_index chain i) v (slice_index chain j) within) as (λ _. slice_index old (slice_index chain j) ≡ slice_index (set rests (slice_index chain i) v) (slice_index chain j) + a) [
        | inl s ↦ let was : slice_index old (slice_index chain j) ≡ slice_index old (slice_index chain i) = ap (λ c. slice_index old c) s.0 in omega (arith, was, s.1, untouched, least)
        | inr s ↦
            let apart : j ≢ i = λ e. s.0 (ap (λ n. slice_index chain n) e) in
            omega (arith, s.1, of_each j (omega (arith, apart, lt)))
      ]

  pub of_none_more : (c : ℕ) → ((j : ℕ) → j < i + 1 → slice_index chain j ≢ c) → slice_index (set rests (slice_index chain i) (slice_index rests (slice_index chain i) - a)) c ≡ slice_index old c
  of_none_more c none =
      get_or-set_other rests (slice_index chain i) c (slice_index rests (slice_index chain i) - a) 0 (λ e. none i (omega arith) (sym e)) ∙ of_none c (λ j lt. none j (omega arith))

  pub carried_more : IsCarried o old (set rests (slice_index chain i) (slice_index rests (slice_index chain i) - a)) (first_debtor o chain) (stand o chain (first_debtor o chain) (i + 1)) a
  carried_more = rw add-one (carried_on o old rests (slice_index chain i) a (first_debtor o chain) (stand o chain (first_debtor o chain) i) (is.places i in') within (omega (arith, untouched, least)) (stands o chain i is in') carried)

none_of_more : (x c : ℕ) (xs : List ℕ) → x ≢ c → ((j : ℕ) → j < length xs → slice_index xs j ≢ c) → (j : ℕ) → j < length (x ∷ xs) → slice_index (x ∷ xs) j ≢ c
none_of_more x c xs apart none zero lt = apart
none_of_more x c xs apart none (suc j) lt = none j (omega arith)

-- a claim is one of a list, or none of it is
pub has_cases : (claims : List ℕ) (c : ℕ) → ((list_any (λ k. k == c) claims ≡ true) × ((j : ℕ) × (j < length claims) × (slice_index claims j ≡ c)))
    ⊎ ((list_any (λ k. k == c) claims ≡ false) × ((j : ℕ) → j < length claims → slice_index claims j ≢ c))
has_cases [] c = inr (refl, λ j lt. absurd (omega arith))
has_cases (x ∷ xs) c =
    elim (cases_eq x c) as (λ _. ((list_any (λ k. k == c) (x ∷ xs) ≡ true) × ((j : ℕ) × (j < length (x ∷ xs)) × (slice_index (x ∷ xs) j ≡ c)))
    ⊎ ((list_any (λ k. k == c) (x ∷ xs) ≡ false) × ((j : ℕ) → j < length (x ∷ xs) → slice_index (x ∷ xs) j ≢ c))) [
      | inl e ↦ inl (ap (λ b. b || list_any (λ k. k == c) xs) (eq-eqb x c e), (0, omega arith, e))
      | inr ne ↦
          let no : list_any (λ k. k == c) (x ∷ xs) ≡ list_any (λ k. k == c) xs = ap (λ b. b || list_any (λ k. k == c) xs) (ne_eqb x c ne) in
          elim (has_cases xs c) as (λ _. ((list_any (λ k. k == c) (x ∷ xs) ≡ true) × ((j : ℕ) × (j < length (x ∷ xs)) × (slice_index (x ∷ xs) j ≡ c)))
          ⊎ ((list_any (λ k. k == c) (x ∷ xs) ≡ false) × ((j : ℕ) → j < length (x ∷ xs) → slice_index (x ∷ xs) j ≢ c))) [
            | inl h ↦ let lt : h.1.0 < length xs = h.1.1 in inl (no ∙ h.0, (suc h.1.0, omega arith, h.1.2))
            | inr h ↦ inr (no ∙ h.0, none_of_more x c xs ne h.1)
          ]
    ]

-- so each claim has its share less
pub share_of : (old new claims : List ℕ) (a : ℕ) → IsLowered old claims a new → (c : ℕ) → slice_index old c ≡ slice_index new c + (if list_any (λ k. k == c) claims then a else 0)
share_of old new claims a is c = elim (has_cases claims c) as (λ _. slice_index old c ≡ slice_index new c + (if list_any (λ k. k == c) claims then a else 0)) [
  | inl h ↦ rw h.0 (subst (λ (k : ℕ). slice_index old k ≡ slice_index new k + a) h.1.2 (is.of_each h.1.0 h.1.1))
  | inr h ↦ rw h.0 (let e = is.of_none c h.1 in omega (arith, e))
]

pub no_more : (old new claims : List ℕ) (a : ℕ) → IsLowered old claims a new → (c : ℕ) → slice_index new c ≤ slice_index old c
no_more old new claims a is c = let e = share_of old new claims a is c in omega (arith, e)
