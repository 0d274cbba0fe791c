-- The claims of each party, with one claim more in front.
use Rattle.std.specs.Prelude.{slice_index, ◌==◌, ◌||◌}
use Rattle.std.proofs.Common.{◌≡◌, ◌≢◌, ◌⊎◌, ℕ, ◌+◌, ◌<◌, ◌≤◌, Bool, true, false, List, length, set, sym, ◌∙◌, ap, ap₂, subst, inl, inr, arith, get_or-set_same, get_or-set_other}
use Rattle.std.proofs.Math.ListN.{length-set}
use Rattle.std.proofs.lemmas.Bool.{cases_eq, eq-eqb, ne_eqb, or_right}
use Rattle.setoff_model.specs.Setoff.{Obligations}
use Rattle.history_text.specs.Lists.{AreListed, IsNext, names_at}

-- ---- a claim that names a party, or does not

pub names_creditor : (o : Obligations) (party c : ℕ) → slice_index o.creditors c ≡ party → names_at o party c ≡ true
names_creditor o party c is = ap (λ (b : Bool). b || (slice_index o.debtors c == party)) (eq-eqb (slice_index o.creditors c) party is)

pub names_debtor : (o : Obligations) (party c : ℕ) → slice_index o.debtors c ≡ party → names_at o party c ≡ true
names_debtor o party c is = or_right (slice_index o.creditors c == party) (slice_index o.debtors c == party) (eq-eqb (slice_index o.debtors c) party is)

names_neither : (o : Obligations) (party c : ℕ) → slice_index o.creditors c ≢ party → slice_index o.debtors c ≢ party → names_at o party c ≡ false
names_neither o party c apart neither = ap₂ (λ (a b : Bool). a || b) (ne_eqb (slice_index o.creditors c) party apart) (ne_eqb (slice_index o.debtors c) party neither)

-- ---- the next claim of a party

-- where there is no claim there is none
pub none_next : (o : Obligations) (party : ℕ) → IsNext o party (length o.amounts) (length o.amounts)
none_next o party = record { low = omega arith; high = omega arith; none = λ c from before. absurd (omega (arith, from, before)); named = λ lt. absurd (omega (arith, lt)) }

-- a claim that names it is the next from its own place on
here_next : (o : Obligations) (party n : ℕ) → n < length o.amounts → names_at o party n ≡ true → IsNext o party n n
here_next o party n lt named = record { low = omega arith; high = omega arith; none = λ c from before. absurd (omega (arith, from, before)); named = λ _. named }

-- one that does not name it is passed
past_next : (o : Obligations) (party n place : ℕ) → names_at o party n ≡ false → IsNext o party (n + 1) place → IsNext o party n place
past_next o party n place unnamed next = record {
  low = omega (arith, next.low);
  high = next.high;
  none = λ c from before. elim (cases_eq c n) as (λ _. names_at o party c ≡ false) [
    | inl here ↦ ap (names_at o party) here ∙ unnamed
    | inr apart ↦ let ne : c ≢ n = apart in next.none c (omega (arith, ne, from)) before
  ];
  named = next.named;
}

-- ---- lists

-- what is read where one place was written
set_cases : (xs : List ℕ) (p v f : ℕ) → p < length xs → ((f ≡ p) × (slice_index (set xs p v) f ≡ v)) ⊎ ((f ≢ p) × (slice_index (set xs p v) f ≡ slice_index xs f))
set_cases xs p v f within =
    elim (cases_eq f p) as (λ _. ((f ≡ p) × (slice_index (set xs p v) f ≡ v)) ⊎ ((f ≢ p) × (slice_index (set xs p v) f ≡ slice_index xs f))) [
      | inl e ↦ inl (e, ap (λ (k : ℕ). slice_index (set xs p v) k) e ∙ get_or-set_same xs p v 0 within)
      | inr ne ↦ inr (ne, get_or-set_other xs p f v 0 ne)
    ]

module _ (o : Obligations) (n x y : ℕ) (firsts credits debts : List ℕ) (old : AreListed o (n + 1) firsts credits debts) (lt : n < length o.amounts)
    (creditor : x ≡ slice_index o.creditors n) (debtor : y ≡ slice_index o.debtors n) (x_within : x < length o.spends) (y_within : y < length o.spends) where
  first_of : (party : ℕ) → party < length o.spends → IsNext o party n (slice_index (set (set firsts x n) y n) party)
  first_of party within =
      elim (set_cases (set firsts x n) y n party (omega (arith, length-set firsts x n, old.first_each, y_within))) as (λ _. IsNext o party n (slice_index (set (set firsts x n) y n) party)) [
        | inl s ↦ subst (IsNext o party n) (sym s.1) (here_next o party n lt (names_debtor o party n (sym debtor ∙ sym s.0)))
        | inr s ↦ subst (IsNext o party n) (sym s.1) (elim (set_cases firsts x n party (omega (arith, old.first_each, x_within))) as (λ _. IsNext o party n (slice_index (set firsts x n) party)) [
          | inl t ↦ subst (IsNext o party n) (sym t.1) (here_next o party n lt (names_creditor o party n (sym creditor ∙ sym t.0)))
          | inr t ↦ subst (IsNext o party n) (sym t.1) (past_next o party n (slice_index firsts party) (names_neither o party n (λ e. t.0 (sym e ∙ sym creditor)) (λ e. s.0 (sym e ∙ sym debtor))) (old.first_next party within))
        ])
      ]

  credit_of : (c : ℕ) → n ≤ c → c < length o.amounts → IsNext o (slice_index o.creditors c) (c + 1) (slice_index (set credits n (slice_index firsts x)) c)
  credit_of c from within =
      elim (set_cases credits n (slice_index firsts x) c (omega (arith, old.credit_each, lt))) as (λ _. IsNext o (slice_index o.creditors c) (c + 1) (slice_index (set credits n (slice_index firsts x)) c)) [
        | inl s ↦
            let own : IsNext o (slice_index o.creditors n) (n + 1) (slice_index firsts x) = subst (λ (p : ℕ). IsNext o p (n + 1) (slice_index firsts x)) creditor (old.first_next x x_within) in
            subst (IsNext o (slice_index o.creditors c) (c + 1)) (sym s.1) (subst (λ (k : ℕ). IsNext o (slice_index o.creditors k) (k + 1) (slice_index firsts x)) (sym s.0) own)
        | inr s ↦ let apart : c ≢ n = s.0 in subst (IsNext o (slice_index o.creditors c) (c + 1)) (sym s.1) (old.credit_next c (omega (arith, apart, from)) within)
      ]

  debt_of : (c : ℕ) → n ≤ c → c < length o.amounts → IsNext o (slice_index o.debtors c) (c + 1) (slice_index (set debts n (slice_index firsts y)) c)
  debt_of c from within =
      elim (set_cases debts n (slice_index firsts y) c (omega (arith, old.debt_each, lt))) as (λ _. IsNext o (slice_index o.debtors c) (c + 1) (slice_index (set debts n (slice_index firsts y)) c)) [
        | inl s ↦
            let own : IsNext o (slice_index o.debtors n) (n + 1) (slice_index firsts y) = subst (λ (p : ℕ). IsNext o p (n + 1) (slice_index firsts y)) debtor (old.first_next y y_within) in
            subst (IsNext o (slice_index o.debtors c) (c + 1)) (sym s.1) (subst (λ (k : ℕ). IsNext o (slice_index o.debtors k) (k + 1) (slice_index firsts y)) (sym s.0) own)
        | inr s ↦ let apart : c ≢ n = s.0 in subst (IsNext o (slice_index o.debtors c) (c + 1)) (sym s.1) (old.debt_next c (omega (arith, apart, from)) within)
      ]

  -- the claim in front of the later ones
  pub one_listed : AreListed o n (set (set firsts x n) y n) (set credits n (slice_index firsts x)) (set debts n (slice_index firsts y))
  one_listed = record {
    first_each = length-set (set firsts x n) y n ∙ length-set firsts x n ∙ old.first_each;
    credit_each = length-set credits n (slice_index firsts x) ∙ old.credit_each;
    debt_each = length-set debts n (slice_index firsts y) ∙ old.debt_each;
    first_next = first_of;
    credit_next = credit_of;
    debt_next = debt_of;
  }
