-- A look-up of a pair by its test is one by its columns.
use Rattle.std.specs.Prelude.{◌==◌, ◌&&◌, if◌then◌else◌}
use Rattle.std.specs.List.{position, list_any}
use Rattle.std.proofs.Common.{◌≡◌, ℕ, ◌<◌, Bool, true, false, Option, Some, None, MatchOption, List, [], ◌∷◌, ◌++◌, length, map, get_or, refl, sym, ◌∙◌, ap, true≢false, is_some, arith}
use Rattle.std.proofs.lemmas.Bool.Decides.{nat_tests}
use Rattle.std.proofs.lemmas.List.{length-map, get_or-map, map-append, get_or_default}
use Rattle.std.proofs.lemmas.List.Folds.{list_any_none, list_any_at}
use Rattle.std.proofs.lemmas.List.Quantifiers.{position-Some}
use Rattle.netting_graph.specs.declared.index.Pair.{Pair}
use Rattle.netting_graph.specs.Pairs.{Pairs, IsPairAt}
use Rattle.netting_graph.proofs.Crossing.{pair_yes}

-- the two columns of a list of pairs
abbrev pub columns : List Pair → Pairs
columns pairs = record { debtors = map (λ p. p.debtor) pairs; creditors = map (λ p. p.creditor) pairs }

-- a pair to read where there is none
abbrev no_pair : Pair
no_pair = record { debtor = 0; creditor = 0 }

-- the test is whether a pair has these two places
abbrev pub IsTestOf : (Pair → Bool) → ℕ → ℕ → Type 0
IsTestOf test debtor creditor = (x : Pair) → test x ≡ (debtor == x.debtor && creditor == x.creditor)

both : (p q r s : ℕ) → (p == r && q == s) ≡ true → (r ≡ p) × (s ≡ q)
both p q r s holds = (grind (arith, nat_tests), grind (arith, nat_tests))

-- a pair that passes stands in the columns
at_place : (test : Pair → Bool) (pairs : List Pair) (debtor creditor a : ℕ) → IsTestOf test debtor creditor
    → a < length pairs → test (get_or pairs a no_pair) ≡ true → IsPairAt (columns pairs) debtor creditor a
at_place test pairs debtor creditor a is in' holds =
    let p : Pair = get_or pairs a no_pair in
    let same = both debtor creditor p.debtor p.creditor (sym (is p) ∙ holds) in
    record {
      within = omega (arith, length-map pairs (λ (p : Pair). p.debtor));
      debtor_is = get_or-map (λ (p : Pair). p.debtor) pairs a no_pair 0 in' ∙ same.0;
      creditor_is = get_or-map (λ (p : Pair). p.creditor) pairs a no_pair 0 in' ∙ same.1;
    }

-- a pair of the columns passes
passes : (test : Pair → Bool) (pairs : List Pair) (debtor creditor a : ℕ) → IsTestOf test debtor creditor
    → IsPairAt (columns pairs) debtor creditor a → list_any test pairs ≡ true
passes test pairs debtor creditor a is at =
    let p : Pair = get_or pairs a no_pair in
    let in' : a < length pairs = omega (arith, at.within, length-map pairs (λ (p : Pair). p.debtor)) in
    let d = get_or-map (λ (p : Pair). p.debtor) pairs a no_pair 0 in' in
    let c = get_or-map (λ (p : Pair). p.creditor) pairs a no_pair 0 in' in
    list_any_at test pairs a no_pair in'
    (is p ∙ pair_yes debtor creditor p.debtor p.creditor (sym at.debtor_is ∙ d) (sym at.creditor_is ∙ c))

-- what a look-up answers
pub found : (test : Pair → Bool) (pairs : List Pair) (debtor creditor : ℕ) (r : Option ℕ) → IsTestOf test debtor creditor
    → r ≡ position test pairs → is_some r ≡ list_any test pairs →
    MatchOption r ((a : ℕ) → IsPairAt (columns pairs) debtor creditor a → ⊥) (IsPairAt (columns pairs) debtor creditor)
found test pairs debtor creditor (Some a) is e some =
    let first = position-Some test pairs a no_pair (sym e) in
    at_place test pairs debtor creditor a is first.0 first.1
found test pairs debtor creditor None is e some =
    λ a at. true≢false (sym (some ∙ passes test pairs debtor creditor a is at))

-- no pair passes where none of the columns is the pair
none_passes : (test : Pair → Bool) (pairs : List Pair) (debtor creditor : ℕ) → IsTestOf test debtor creditor
    → ((a : ℕ) → IsPairAt (columns pairs) debtor creditor a → ⊥) → list_any test pairs ≡ false
none_passes test pairs debtor creditor is none =
    let each : (a : ℕ) (d : Pair) → a < length pairs → test (get_or pairs a d) ≡ false =
    λ a d in'.
    let at : test (get_or pairs a no_pair) ≡ true → ⊥ = λ holds. none a (at_place test pairs debtor creditor a is in' holds) in
    ap test (get_or_default pairs a d no_pair in') ∙ is_false (test (get_or pairs a no_pair)) at
    in
    list_any_none test pairs each
  where
    is_false : (b : Bool) → (b ≡ true → ⊥) → b ≡ false
    is_false true h = absurd (h refl)
    is_false false h = refl

-- a new pair goes last
pub put_last : (test : Pair → Bool) (pairs new : List Pair) (debtor creditor : ℕ) → IsTestOf test debtor creditor
    → ((a : ℕ) → IsPairAt (columns pairs) debtor creditor a → ⊥) →
    new ≡ (if list_any test pairs then pairs else pairs ++ record { debtor = debtor; creditor = creditor } ∷ []) →
    columns new ≡ record {
      debtors = map (λ (p : Pair). p.debtor) pairs ++ debtor ∷ [];
      creditors = map (λ (p : Pair). p.creditor) pairs ++ creditor ∷ [];
    }
put_last test pairs new debtor creditor is none e =
    let last : Pair = record { debtor = debtor; creditor = creditor } in
    let longer : new ≡ pairs ++ last ∷ [] =
    e ∙ ap (λ (b : Bool). if b then pairs else pairs ++ last ∷ []) (none_passes test pairs debtor creditor is none) in
    let d = map-append (λ (p : Pair). p.debtor) pairs (last ∷ []) in
    let c = map-append (λ (p : Pair). p.creditor) pairs (last ∷ []) in
    ap columns longer ∙ ap (λ (ds : List ℕ). two ds (map (λ (p : Pair). p.creditor) (pairs ++ last ∷ []))) d
    ∙ ap (λ (cs : List ℕ). two (map (λ (p : Pair). p.debtor) pairs ++ debtor ∷ []) cs) c
  where
    two : List ℕ → List ℕ → Pairs
    two ds cs = record { debtors = ds; creditors = cs }
