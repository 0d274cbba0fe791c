-- What an index says of names and keys.
use Rattle.std.specs.Prelude.{◌≢◌, position, Option, Some, None, MatchOption, All}
use Rattle.std.specs.List.{list_any}
use Rattle.std.specs.Bool.{Decides}
use Rattle.std.proofs.Common.{◌≡◌, ◌∙◌, ℕ, ◌<◌, Bool, true, false, List, length, get_or, refl, sym}
use Rattle.std.proofs.lemmas.Bool.{false≢true}
use Rattle.std.proofs.lemmas.List.Folds.{list_any_at, list_any_none}
use Rattle.std.proofs.lemmas.List.Quantifiers.{position-Some}
use Rattle.setoff_model.specs.Same.{same_key, same_name}
use Rattle.setoff_model.specs.declared.name.Key.{Key}
use Rattle.setoff_model.proofs.Lists.{position_none}
use Rattle.setoff_model.proofs.SameNames.{same_key_is, same_name_is}

-- it is not there, or it stands at this place
abbrev pub IsPlaceIn : {X : Type 0} → List X → X → Option ℕ → Type 0
IsPlaceIn {X} ks k place = MatchOption place (All (λ x. x ≢ k) ks) (λ p. (p < length ks) × ((d : X) → get_or ks p d ≡ k))

module _ {X : Type 0} (same : X → X → Bool) (tells : (a b : X) → Decides (same a b) (a ≡ b)) (k : X) (ks : List X) where
  new_from_test : list_any (same k) ks ≡ false → All (λ x. x ≢ k) ks
  new_from_test none i d lt e = false≢true (sym none ∙ list_any_at (same k) ks i d lt ((tells k (get_or ks i d)).1 (sym e)))

  not_same : (r : Bool) (x : X) → Decides r (k ≡ x) → x ≢ k → r ≡ false
  not_same false x d h = refl
  not_same true x d h = absurd (h (sym (d.0 refl)))

  test_from_new : All (λ x. x ≢ k) ks → list_any (same k) ks ≡ false
  test_from_new new = list_any_none (same k) ks (λ i d lt. not_same _ _ (tells k (get_or ks i d)) (new i d lt))

  place_found : (r : Option ℕ) → r ≡ position (same k) ks → IsPlaceIn ks k r
  place_found None at = new_from_test (position_none (same k) ks (sym at))
  place_found (Some p) at = ((position-Some (same k) ks p k (sym at)).0, λ d. sym ((tells k (get_or ks p d)).0 (position-Some (same k) ks p d (sym at)).1))

pub name_place : (name : List ℕ) (names : List (List ℕ)) (r : Option ℕ) → r ≡ position (same_name name) names → IsPlaceIn names name r
name_place = place_found same_name same_name_is

pub key_place : (key : Key) (keys : List Key) (r : Option ℕ) → r ≡ position (same_key key) keys → IsPlaceIn keys key r
key_place = place_found same_key same_key_is

pub new_name : (name : List ℕ) (names : List (List ℕ)) → All (λ x. x ≢ name) names → list_any (same_name name) names ≡ false
new_name = test_from_new same_name same_name_is

pub new_key : (key : Key) (keys : List Key) → All (λ x. x ≢ key) keys → list_any (same_key key) keys ≡ false
new_key = test_from_new same_key same_key_is
