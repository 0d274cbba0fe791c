-- An index of the firms of accounts, and of those of parties, as it grows.
use Rattle.std.specs.Prelude.{map, take, AllPairs, ◌≢◌}
use Rattle.std.specs.List.{list_any}
use Rattle.std.specs.Bool.{Decides}
use Rattle.std.proofs.Common.{◌≡◌, ℕ, suc, ◌+◌, ◌<◌, Bool, true, false, List, [], ◌∷◌, ◌++◌, length, get_or, refl, sym, ◌∙◌, ap, arith, length-take-le}
use Rattle.std.proofs.Math.Seq.{take-suc}
use Rattle.std.proofs.lemmas.List.{get_or-take, get_or_default, map-append}
use Rattle.std.proofs.lemmas.List.Folds.{list_any_none}
use Rattle.setoff_model.proofs.Lists.{list_any-map}
use Rattle.setoff_model.proofs.SameNames.{same_name_is}
use Rattle.setoff_model.specs.Same.{same_name}

not_one : {P : Type 0} (b : Bool) → Decides b P → (P → ⊥) → b ≡ false
not_one true d never = absurd (never (d.0 refl))
not_one false d never = refl

module _ {X : Type 0} (firm : X → List ℕ) (xs : List X) (i : ℕ) (x : X) (lt : i < length xs) (is : x ≡ get_or xs i x) where
  -- where no two rows have one firm, the next has none of those before it
  pub no_earlier : (names : List (List ℕ)) → names ≡ map firm (take i xs) → AllPairs (λ a b. firm a ≢ firm b) xs → list_any (same_name (firm x)) names ≡ false
  no_earlier names are apart =
      let short = length-take-le i xs (omega (arith, lt)) in
      ap (list_any (same_name (firm x))) are
      ∙ list_any-map (same_name (firm x)) firm (take i xs)
      ∙ list_any_none (λ y. same_name (firm x) (firm y)) (take i xs) (λ k d less.
      let before : k < i = omega (arith, less, short) in
      let differ = apart k i d before lt in
      not_one (same_name (firm x) (firm (get_or (take i xs) k d))) (same_name_is (firm x) (firm (get_or (take i xs) k d))) (λ same.
      differ (ap firm (sym (get_or-take i xs k d before)) ∙ sym same ∙ ap firm (is ∙ at_default d))))
    where
      at_default : (d : X) → get_or xs i x ≡ get_or xs i d
      at_default d = get_or_default xs i x d lt

  -- the index with the next
  pub one_further : (names : List (List ℕ)) → names ≡ map firm (take i xs) → names ++ firm x ∷ [] ≡ map firm (take (i + 1) xs)
  one_further names are =
      let next : suc i ≡ i + 1 = omega arith in
      ap (λ ys. ys ++ firm x ∷ []) are
      ∙ sym (map-append firm (take i xs) (x ∷ []))
      ∙ ap (λ y. map firm (take i xs ++ y ∷ [])) is
      ∙ ap (map firm) (sym (take-suc xs i x lt))
      ∙ ap (λ n. map firm (take n xs)) next
