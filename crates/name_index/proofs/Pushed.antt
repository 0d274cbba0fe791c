-- The first place that passes, with one more at the end.
use Rattle.std.specs.Prelude.{position, Option, Some, None}
use Rattle.std.specs.List.{list_any, position_or_len}
use Rattle.std.proofs.Common.{◌≡◌, ℕ, suc, ◌+◌, ◌<◌, Bool, true, false, not, cond, ◌||◌, List, [], ◌∷◌, ◌++◌, nat_lt, length, refl, sym, ◌∙◌, ap, ap₂, arith}
use Rattle.std.proofs.lemmas.Bool.{or_parts, le-ltb, ltb-false}
use Rattle.std.proofs.lemmas.List.{length-append}
use Rattle.std.proofs.lemmas.List.Folds.{list_any-append}
use Rattle.setoff_model.proofs.Lists.{any_within}
use Rattle.name_index.proofs.Places.{place_push, place_last}

-- where none passes, the first place is past the end
none_len : {X : Type 0} (p : X → Bool) (xs : List X) → list_any p xs ≡ false → position_or_len p xs ≡ length xs
none_len p [] none = refl
none_len p (x ∷ xs) none =
    let parts = or_parts (p x) (list_any p xs) none in
    let more : 1 + length xs ≡ suc (length xs) = omega arith in
    ap₂ (λ (b : Bool) (n : ℕ). cond (not b) (1 + n) 0) parts.0 (none_len p xs parts.1) ∙ more

abbrev pub place_in : ℕ → ℕ → Option ℕ
place_in a n = cond (nat_lt a n) (Some a) None

past : (a n : ℕ) → a ≡ n → place_in a n ≡ None
past a n e = ap (λ (b : Bool). cond b (Some a) None) (le-ltb a n (omega (arith, e)))

pub below : (a n : ℕ) → a < n → place_in a n ≡ Some a
below a n lt = ap (λ (b : Bool). cond b (Some a) None) (is_below (nat_lt a n) refl)
  where
    is_below : (b : Bool) → nat_lt a n ≡ b → nat_lt a n ≡ true
    is_below true e = e
    is_below false e = absurd (omega (arith, ltb-false a n e, lt))

module _ {X : Type 0} (p : X → Bool) (xs : List X) where
  pub none_there : list_any p xs ≡ false → position p xs ≡ None
  none_there none = past (position_or_len p xs) (length xs) (none_len p xs none)

  module _ (y : X) where
    long : length (xs ++ y ∷ []) ≡ length xs + 1
    long = length-append xs (y ∷ [])

    -- what passes first at the end
    pub pushed_here : list_any p xs ≡ false → p y ≡ true → position p (xs ++ y ∷ []) ≡ Some (length xs)
    pushed_here none here =
        ap (λ (a : ℕ). place_in a (length (xs ++ y ∷ []))) (place_last p xs y none here)
        ∙ below (length xs) (length (xs ++ y ∷ [])) (omega (arith, long))

    -- what does not pass moves no place
    pub pushed_other : p y ≡ false → position p (xs ++ y ∷ []) ≡ position p xs
    pushed_other other = by (list_any p xs) refl
      where
        by : (b : Bool) → list_any p xs ≡ b → position p (xs ++ y ∷ []) ≡ position p xs
        by true e =
            let within = any_within p xs e in
            let same = place_push p xs y e in
            ap (λ (a : ℕ). place_in a (length (xs ++ y ∷ []))) same
            ∙ below (position_or_len p xs) (length (xs ++ y ∷ [])) (omega (arith, long, within))
            ∙ sym (below (position_or_len p xs) (length xs) within)
        by false e =
            let none : list_any p (xs ++ y ∷ []) ≡ false = list_any-append p xs (y ∷ []) ∙ ap₂ (λ (a b : Bool). a || (b || false)) e other in
            past (position_or_len p (xs ++ y ∷ [])) (length (xs ++ y ∷ [])) (none_len p (xs ++ y ∷ []) none)
            ∙ sym (past (position_or_len p xs) (length xs) (none_len p xs e))
