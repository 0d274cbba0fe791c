-- The fields of some acts, as they are read one by one.
use Rattle.std.proofs.Common.{◌≡◌, ◌∙◌, ℕ, ◌<◌, ◌≤◌, ◌&&◌, Bool, true, false, true≢false, IfNone, nat_le, rules, Option, Some, None, List, [], ◌∷◌, Bor, codes, get_or, length, map, refl, sym, ap, ap₂, subst, arith}
use Rattle.setoff_model.specs.declared.limits.TheConstants.{MOST_AMOUNT}
use Rattle.setoff_model.specs.Names.{is_name}
use Rattle.setoff_model.specs.Texts.{cents_text}
use Rattle.setoff_model.specs.declared.name.Key.{Key}
use Rattle.claim_history.specs.Acts.{is_amount, is_claim_amount, is_key}
use Rattle.claim_history.specs.declared.act.Act.TheVariants as acts
use Rattle.request_text.specs.Grammar.{AreArgs}
use Rattle.request_text.specs.Causes.{HasArgsCause, HasForm, any_cents, forms_of, named, some_cents}
use Rattle.request_text.specs.declared.error.LineCause.TheVariants as causes
use Rattle.request_text.specs.declared.verb.Verb.TheVariants as verbs

two : {X : Type 0} (d : X) (xs : List X) → 2 ≤ length xs → length xs < 3 → xs ≡ get_or xs 0 d ∷ get_or xs 1 d ∷ []
two d [] low high = absurd (omega arith)
two d (a ∷ []) low high = absurd (omega arith)
two d (a ∷ b ∷ []) low high = refl
two d (a ∷ b ∷ c ∷ xs) low high = absurd (omega arith)

three : {X : Type 0} (d : X) (xs : List X) → 3 ≤ length xs → length xs < 4 → xs ≡ get_or xs 0 d ∷ get_or xs 1 d ∷ get_or xs 2 d ∷ []
three d [] low high = absurd (omega arith)
three d (a ∷ []) low high = absurd (omega arith)
three d (a ∷ b ∷ []) low high = absurd (omega arith)
three d (a ∷ b ∷ c ∷ []) low high = refl
three d (a ∷ b ∷ c ∷ e ∷ xs) low high = absurd (omega arith)

-- a field, and where there is none, one that is empty
abbrev no_field : Bor (List ℕ)
no_field = record { ref_ptr = (0, 0); now = [] }

abbrev field_at : List (Bor (List ℕ)) → ℕ → List ℕ
field_at xs i = (get_or xs i no_field).now

-- the field is the firm's name, or the amount
abbrev IsFirm : List ℕ → List ℕ → Type 0
IsFirm firm field = (firm ≡ field) × (is_name firm ≡ true)

abbrev IsLimit : ℕ → List ℕ → Type 0
IsLimit cents field = (field ≡ cents_text cents) × (is_amount cents ≡ true)

abbrev IsAmount : ℕ → List ℕ → Type 0
IsAmount cents field = (field ≡ cents_text cents) × (is_claim_amount cents ≡ true)

-- two fields are the key
abbrev IsKeyOf : Key → List ℕ → List ℕ → Type 0
IsKeyOf key creditor invoice = (key.creditor ≡ creditor) × (key.invoice ≡ invoice) × (is_key key ≡ true)

both_hold : (a b : Bool) → (a && b) ≡ true → (a ≡ true) × (b ≡ true)
both_hold true true e = (refl, refl)
both_hold true false e = absurd (true≢false (sym e))
both_hold false b e = absurd (true≢false (sym e))

module _ (xs : List (Bor (List ℕ))) where
  abbrev bytes : List (List ℕ)
  bytes = map (λ (f : Bor (List ℕ)). f.now) xs

  module _ (low : 3 ≤ length xs) (high : length xs < 4) where
    of_three : bytes ≡ field_at xs 0 ∷ field_at xs 1 ∷ field_at xs 2 ∷ []
    of_three = ap (map (λ (f : Bor (List ℕ)). f.now)) (three no_field xs low high)

    pub limit_found : (firm : List ℕ) (credit ceiling : ℕ) → IsFirm firm (field_at xs 0) → IsLimit credit (field_at xs 1) → IsLimit ceiling (field_at xs 2)
        → AreArgs (codes "LIMIT") bytes (acts.Limit firm credit ceiling)
    limit_found firm credit ceiling f low_limit high_limit = (
      ap₂ (λ (a b : Bool). a && b) (ap₂ (λ (a b : Bool). a && b) f.1 low_limit.1) high_limit.1,
      ap (λ (fields : List (List ℕ)). codes "LIMIT" ∷ fields)
          (of_three ∙ ap₂ (λ (a : List ℕ) (rest : List (List ℕ)). a ∷ rest) (sym f.0) (ap₂ (λ (a b : List ℕ). a ∷ b ∷ []) low_limit.0 high_limit.0)),
    )

    pub credit_bad : (firm : List ℕ) → IsFirm firm (field_at xs 0) → (HasForm any_cents (field_at xs 1) → ⊥) → HasArgsCause (forms_of verbs.Limit) bytes (causes.Field 2)
    credit_bad firm f bad =
        subst (λ (fields : List (List ℕ)). HasArgsCause (forms_of verbs.Limit) fields (causes.Field 2)) (sym of_three)
        ((omega arith, omega arith), (subst (λ (name : List ℕ). is_name name ≡ true) f.0 f.1, bad))

    pub ceiling_bad : (firm : List ℕ) (credit : ℕ) → IsFirm firm (field_at xs 0) → IsLimit credit (field_at xs 1) → (HasForm any_cents (field_at xs 2) → ⊥)
        → HasArgsCause (forms_of verbs.Limit) bytes (causes.Field 3)
    ceiling_bad firm credit f limit bad =
        subst (λ (fields : List (List ℕ)). HasArgsCause (forms_of verbs.Limit) fields (causes.Field 3)) (sym of_three)
        ((omega arith, omega arith), (subst (λ (name : List ℕ). is_name name ≡ true) f.0 f.1, ((credit, (limit.1, limit.0)), bad)))

    pub receive_found : (key : Key) (amount : ℕ) → IsKeyOf key (field_at xs 0) (field_at xs 1) → IsAmount amount (field_at xs 2) → AreArgs (codes "RECEIVE") bytes (acts.Receive key amount)
    receive_found key amount k a = (
      ap₂ (λ (x y : Bool). x && y) k.2 a.1,
      ap (λ (fields : List (List ℕ)). codes "RECEIVE" ∷ fields)
          (of_three ∙ ap₂ (λ (x : List ℕ) (rest : List (List ℕ)). x ∷ rest) (sym k.0) (ap₂ (λ (x y : List ℕ). x ∷ y ∷ []) (sym k.1) a.0)),
    )

    pub receive_bad : (key : Key) → IsKeyOf key (field_at xs 0) (field_at xs 1) → (HasForm some_cents (field_at xs 2) → ⊥) → HasArgsCause (forms_of verbs.Receive) bytes (causes.Field 3)
    receive_bad key k bad =
        let names = both_hold (is_name key.creditor) (is_name key.invoice) k.2 in
        subst (λ (fields : List (List ℕ)). HasArgsCause (forms_of verbs.Receive) fields (causes.Field 3)) (sym of_three)
        ((omega arith, omega arith), (subst (λ (name : List ℕ). is_name name ≡ true) k.0 names.0, (subst (λ (name : List ℕ). is_name name ≡ true) k.1 names.1, bad)))

  module _ (low : 2 ≤ length xs) (high : length xs < 3) where
    of_two : bytes ≡ field_at xs 0 ∷ field_at xs 1 ∷ []
    of_two = ap (map (λ (f : Bor (List ℕ)). f.now)) (two no_field xs low high)

    pub offer_found : (firm : List ℕ) (amount : ℕ) → IsFirm firm (field_at xs 0) → IsLimit amount (field_at xs 1) → AreArgs (codes "OFFER") bytes (acts.Offer firm amount)
    offer_found firm amount f limit = (
      ap₂ (λ (a b : Bool). a && b) f.1 limit.1,
      ap (λ (fields : List (List ℕ)). codes "OFFER" ∷ fields) (of_two ∙ ap₂ (λ (a b : List ℕ). a ∷ b ∷ []) (sym f.0) limit.0),
    )

    pub offer_bad : (firm : List ℕ) → IsFirm firm (field_at xs 0) → (HasForm any_cents (field_at xs 1) → ⊥) → HasArgsCause (forms_of verbs.Offer) bytes (causes.Field 2)
    offer_bad firm f bad =
        subst (λ (fields : List (List ℕ)). HasArgsCause (forms_of verbs.Offer) fields (causes.Field 2)) (sym of_two)
        ((omega arith, omega arith), (subst (λ (name : List ℕ). is_name name ≡ true) f.0 f.1, bad))

    pub firm_amount_found : (firm : List ℕ) (amount : ℕ) → IsFirm firm (field_at xs 0) → IsAmount amount (field_at xs 1)
        → (bytes ≡ firm ∷ cents_text amount ∷ []) × (is_name firm ≡ true) × (is_claim_amount amount ≡ true)
    firm_amount_found firm amount f a = (of_two ∙ ap₂ (λ (x y : List ℕ). x ∷ y ∷ []) (sym f.0) a.0, f.1, a.1)

    pub firm_amount_bad : (firm : List ℕ) → IsFirm firm (field_at xs 0) → (HasForm some_cents (field_at xs 1) → ⊥) → HasArgsCause (named ∷ some_cents ∷ []) bytes (causes.Field 2)
    firm_amount_bad firm f bad =
        subst (λ (fields : List (List ℕ)). HasArgsCause (named ∷ some_cents ∷ []) fields (causes.Field 2)) (sym of_two)
        ((omega arith, omega arith), (subst (λ (name : List ℕ). is_name name ≡ true) f.0 f.1, bad))

-- ---- a field that is no amount

most : (c : ℕ) → is_amount c ≡ true → c ≤ MOST_AMOUNT
most c e = search rules

least : (c : ℕ) → nat_le 1 c ≡ true → 1 ≤ c
least c e = search rules

pub no_amount : (r : Option ℕ) (field : List ℕ) → IfNone r ((c : ℕ) → 1 ≤ c → c ≤ MOST_AMOUNT → field ≡ cents_text c → ⊥) → IfNone r (HasForm some_cents field → ⊥)
no_amount (Some c) field h = tt
no_amount None field h = λ has. let parts = both_hold (nat_le 1 has.0) (is_amount has.0) has.1.0 in h has.0 (least has.0 parts.0) (most has.0 parts.1) has.1.1

pub no_limit : (r : Option ℕ) (field : List ℕ) → IfNone r ((c : ℕ) → c ≤ MOST_AMOUNT → field ≡ cents_text c → ⊥) → IfNone r (HasForm any_cents field → ⊥)
no_limit (Some c) field h = tt
no_limit None field h = λ has. h has.0 (most has.0 has.1.0) has.1.1
