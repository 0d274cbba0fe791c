-- Where nothing is there twice, a place that passes is the first.
use Rattle.std.specs.Prelude.{position, Some, ◌≢◌, AllPairs}
use Rattle.std.specs.Bool.{Decides}
use Rattle.std.proofs.Common.{◌≡◌, ℕ, ◌<◌, Bool, true, false, List, length, get_or, refl, sym, ◌∙◌, ap, arith}
use Rattle.std.proofs.lemmas.List.Sums.{position_or_len_is}
use Rattle.name_index.proofs.Pushed.{place_in, below}

module _ {X : Type 0} (xs : List X) (apart : AllPairs (λ a b. a ≢ b) xs) (p : X → Bool) (x : X) (is : (y : X) → Decides (p y) (x ≡ y)) where
  before : (i k : ℕ) (d : X) → k < i → i < length xs → p (get_or xs i d) ≡ true → p (get_or xs k d) ≡ false
  before i k d less lt here = by (p (get_or xs k d)) refl
    where
      by : (b : Bool) → p (get_or xs k d) ≡ b → p (get_or xs k d) ≡ false
      by true e = absurd (apart k i d less lt (sym ((is (get_or xs k d)).0 e) ∙ (is (get_or xs i d)).0 here))
      by false e = e

  pub only_place : (i : ℕ) (d : X) → i < length xs → p (get_or xs i d) ≡ true → position p xs ≡ Some i
  only_place i d lt here =
      ap (λ (a : ℕ). place_in a (length xs)) (position_or_len_is p xs i d (omega (arith, lt)) (λ k less. before i k d less lt here) (λ _. here))
      ∙ below i (length xs) lt
