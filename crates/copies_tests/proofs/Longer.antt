-- Histories that begin with others.
use Rattle.std.proofs.Common.{◌≡◌, List, [], ◌∷◌, ◌++◌, refl, sym, ◌∙◌, ap, subst}
use Rattle.std.proofs.lemmas.List.{append-nil}
use mathlib.Core.List.{IsPrefix}

pub one_longer : {A : Type 0} (old mid new : List A) (x : A) → mid ≡ old → new ≡ mid ++ x ∷ [] → IsPrefix old new
one_longer old mid new x same more = (x ∷ [], ap (λ xs. xs ++ x ∷ []) (sym same) ∙ sym more)

-- what began the whole begins what the whole begins
pub still_begins : {A : Type 0} (first old new : List A) → first ≡ old → IsPrefix old new → IsPrefix first new
still_begins first old new same begins = subst (λ xs. IsPrefix xs new) (sym same) begins

pub nothing_begins : {A : Type 0} (first all : List A) → first ≡ [] → IsPrefix first all
nothing_begins first all none = subst (λ xs. IsPrefix xs all) (sym none) (all, refl)

pub all_begins : {A : Type 0} (first all : List A) → first ≡ all → IsPrefix first all
all_begins first all same = subst (λ xs. IsPrefix first xs) same ([], append-nil first)
