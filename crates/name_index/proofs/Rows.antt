-- Rows, and an index of their keys.
use Rattle.std.specs.Prelude.{map, position, Option, Some, None}
use Rattle.std.specs.List.{list_any}
use Rattle.std.proofs.Common.{◌≡◌, ℕ, Bool, false, cond, List, [], ◌∷◌, ◌++◌, nat_lt, sym, ◌∙◌, ap, ap₂}
use Rattle.std.proofs.lemmas.List.{length-map, map-append}
use Rattle.setoff_model.proofs.Lists.{place_map, position_none, list_any-map}

position-map : {X Y : Type 0} (h : X → Y) (p : Y → Bool) (xs : List X) → position p (map h xs) ≡ position (λ x. p (h x)) xs
position-map h p xs = ap₂ (λ (a n : ℕ). cond (nat_lt a n) (Some a) None) (place_map h p xs) (length-map xs h)

module _ {X Y : Type 0} (h : X → Y) (ys : List Y) (xs : List X) (keys_are : ys ≡ map h xs) where
  -- a place in the index is one in the rows
  pub row_place : (p : Y → Bool) (r : Option ℕ) → r ≡ position p ys → position (λ x. p (h x)) xs ≡ r
  row_place p r at = sym (position-map h p xs) ∙ ap (position p) (sym keys_are) ∙ sym at

  -- what no row has is not in the index
  pub no_row : (p : Y → Bool) → position (λ x. p (h x)) xs ≡ None → list_any p ys ≡ false
  no_row p none = ap (list_any p) keys_are ∙ list_any-map p h xs ∙ position_none (λ x. p (h x)) xs none

  -- one more row
  pub longer : (x : X) → ys ++ h x ∷ [] ≡ map h (xs ++ x ∷ [])
  longer x = ap (λ zs. zs ++ h x ∷ []) keys_are ∙ sym (map-append h xs (x ∷ []))
