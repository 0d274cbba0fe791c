-- Names, each once, in order of first appearance.
use Rattle.std.specs.Prelude.{filter, if◌then◌else◌}
use Rattle.setoff_model.proofs.SameNames.{name_same}
use Rattle.std.specs.List.{list_any}
use Rattle.std.proofs.Common.{◌≡◌, ℕ, Bool, true, false, not, cond, ◌||◌, List, [], ◌∷◌, ◌++◌, refl, sym, ◌∙◌, ap}
use Rattle.std.proofs.lemmas.List.{append-nil}
use Rattle.std.proofs.lemmas.List.Elements.{filter-append}
use Rattle.std.proofs.lemmas.Map.Views.{any-filter_same}
use Rattle.setoff_model.specs.Same.{same_name}
use Rattle.claim_history.specs.Cut.{distinct}
use Rattle.claim_history.proofs.Rows.{name_is, name_other}

-- whether a name is among them, of those that are not x
any_other : (n x : List ℕ) (xs : List (List ℕ)) → same_name n x ≡ false → list_any (same_name n) (filter (λ y. not (same_name x y)) xs) ≡ list_any (same_name n) xs
any_other n x xs e =
    any-filter_same (same_name n) (λ y. not (same_name x y)) true (λ k same. ap (λ (y : List ℕ). not (same_name x y)) (sym (name_is n k same)) ∙ ap not (name_other n x e)) xs

-- ---- one more name

-- the names with this one, at the end where it is none of them
abbrev pub with_name : List ℕ → List (List ℕ) → List (List ℕ)
with_name n xs = if list_any (same_name n) xs then xs else xs ++ n ∷ []

abbrev others : List ℕ → List (List ℕ) → List (List ℕ)
others x xs = filter (λ y. not (same_name x y)) xs

kept_last : (x y : List ℕ) (b : Bool) (xs : List (List ℕ)) → same_name x y ≡ b → others x (xs ++ y ∷ []) ≡ others x xs ++ cond (not b) (y ∷ []) []
kept_last x y b xs e = filter-append (λ z. not (same_name x z)) xs (y ∷ []) ∙ ap (λ (t : Bool). others x xs ++ cond (not t) (y ∷ []) []) e

name_flip : (x y : List ℕ) → same_name y x ≡ true → same_name x y ≡ true
name_flip x y e = ap (λ (z : List ℕ). same_name x z) (name_is y x e) ∙ name_same x

push_step : (x y : List ℕ) (xs : List (List ℕ)) (b a : Bool) → same_name y x ≡ b → list_any (same_name y) xs ≡ a
    → x ∷ others x (if a then xs else xs ++ y ∷ []) ≡ (if b || list_any (same_name y) (others x xs) then x ∷ others x xs else (x ∷ others x xs) ++ y ∷ [])
push_step x y xs true true e any = refl
push_step x y xs true false e any = ap (λ (t : List (List ℕ)). x ∷ t) (kept_last x y true xs (name_flip x y e) ∙ append-nil (others x xs))
push_step x y xs false true e any = ap (λ (t : Bool). if t then x ∷ others x xs else (x ∷ others x xs) ++ y ∷ []) (sym (any_other y x xs e ∙ any))
push_step x y xs false false e any =
    ap (λ (t : List (List ℕ)). x ∷ t) (kept_last x y false xs (name_other y x e))
    ∙ ap (λ (t : Bool). if t then x ∷ others x xs else (x ∷ others x xs) ++ y ∷ []) (sym (any_other y x xs e ∙ any))

pub distinct_push : (xs : List (List ℕ)) (y : List ℕ) → distinct (xs ++ y ∷ []) ≡ with_name y (distinct xs)
distinct_push [] y = refl
distinct_push (x ∷ xs) y =
    ap (λ (t : List (List ℕ)). x ∷ others x t) (distinct_push xs y)
    ∙ push_step x y (distinct xs) (same_name y x) (list_any (same_name y) (distinct xs)) refl refl
