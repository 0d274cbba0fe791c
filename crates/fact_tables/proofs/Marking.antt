-- Marks that a walk over a cut puts on the rows of a table.
use Rattle.std.specs.Prelude.{map, set, take, position, Option, Some, None, is_some, count_by, get_or}
use Rattle.std.specs.List.{list_any}
use Rattle.std.proofs.Common.{◌≡◌, ℕ, zero, suc, ◌+◌, ◌<◌, ◌≤◌, Bool, true, false, cond, ◌||◌, List, [], ◌∷◌, ◌++◌, length, refl, sym, ◌∙◌, ap, ap₂, subst, arith}
use Rattle.std.proofs.Math.Seq.{take-suc}
use Rattle.std.proofs.lemmas.List.{length-append, take_all}
use Rattle.std.proofs.lemmas.List.Folds.{list_any-append}
use Rattle.std.proofs.lemmas.List.Quantifiers.{position-Some}
use Rattle.std.proofs.lemmas.Option.{none-some}
use Rattle.setoff_model.proofs.Lists.{position_none}
use Rattle.name_index.proofs.Places.{position_any}
use Rattle.fact_tables.proofs.Settle.{map_same}
use Rattle.fact_tables.proofs.Places.{count_cons, count_none, last_one, no_one, one_left, passes}

-- where no row passes, the marks stay
none_marked : {X : Type 0} (p test : X → Bool) (rows : List X) → count_by p rows ≡ 0 → map test rows ≡ map (λ x. p x || test x) rows
none_marked p test [] none = refl
none_marked p test (x ∷ rows) none =
    let both : cond (p x) 1 0 + count_by p rows ≡ 0 = sym (count_cons p x rows) ∙ none in
    ap₂ (λ b bs. b ∷ bs) (ap (λ (b : Bool). b || test x) (sym (no_one (p x) (count_by p rows) both))) (none_marked p test rows (omega (arith, both)))

-- the mark of the one row that passes
one_marked : {X : Type 0} (p test : X → Bool) (rows : List X) (i : ℕ) (d : X) → i < length rows → p (get_or rows i d) ≡ true → count_by p rows ≤ 1
    → set (map test rows) i true ≡ map (λ x. p x || test x) rows
one_marked p test [] i d lt here once = absurd (omega (arith, lt))
one_marked p test (x ∷ rows) zero d lt here once =
    let both : cond (p x) 1 0 + count_by p rows ≤ 1 = subst (λ n. n ≤ 1) (count_cons p x rows) once in
    ap₂ (λ b bs. b ∷ bs) (ap (λ (b : Bool). b || test x) (sym here)) (none_marked p test rows (last_one (p x) (count_by p rows) here both))
one_marked p test (x ∷ rows) (suc i) d lt here once =
    let more : 1 ≤ count_by p rows = passes p rows i d (omega (arith, lt)) here in
    let both : cond (p x) 1 0 + count_by p rows ≤ 1 = subst (λ n. n ≤ 1) (count_cons p x rows) once in
    ap₂ (λ b bs. b ∷ bs) (ap (λ (b : Bool). b || test x) (sym (one_left (p x) (count_by p rows) both more))) (one_marked p test rows i d (omega (arith, lt)) here (omega (arith, both)))

first_marked : {X : Type 0} (p test : X → Bool) (rows : List X) (i : ℕ) → position p rows ≡ Some i → count_by p rows ≤ 1 → set (map test rows) i true ≡ map (λ x. p x || test x) rows
first_marked p test [] i found once = absurd (none-some i found)
first_marked p test (x ∷ rows) i found once =
    let at = position-Some p (x ∷ rows) i x found in one_marked p test (x ∷ rows) i x at.0 at.1 once

module _ {X : Type 0} (p test : X → Bool) (rows : List X) (marks : List Bool) (were : marks ≡ map test rows) where
  -- the row that was found is marked
  pub marked_at : (i : ℕ) → position p rows ≡ Some i → count_by p rows ≤ 1 → set marks i true ≡ map (λ x. p x || test x) rows
  marked_at i found once = ap (λ ms. set ms i true) were ∙ first_marked p test rows i found once

  -- none is found
  pub marked_none : position p rows ≡ None → marks ≡ map (λ x. p x || test x) rows
  marked_none none = were ∙ none_marked p test rows (count_none p rows (position_none p rows none))

-- a place is found where some row passes
found_by : {X : Type 0} (p : X → Bool) (xs : List X) (o : Option ℕ) → position p xs ≡ o → is_some (position p xs) ≡ list_any p xs
found_by p [] o e = refl
found_by p (x ∷ xs) None e = ap is_some e ∙ sym (position_none p (x ∷ xs) e)
found_by p (x ∷ xs) (Some i) e = ap is_some e ∙ sym (position_any p (x ∷ xs) i x e)

pub found_any : {X : Type 0} (p : X → Bool) (xs : List X) → is_some (position p xs) ≡ list_any p xs
found_any p xs = found_by p xs (position p xs) refl

or_flip : (a b : Bool) → (a || b) ≡ (b || (a || false))
or_flip true true = refl
or_flip true false = refl
or_flip false true = refl
or_flip false false = refl

-- a row that is one of the first of a cut, with one more of it
pub next_in : {Y : Type 0} (p : Y → Bool) (ys : List Y) (i : ℕ) (y : Y) (b : Bool) → i < length ys → y ≡ get_or ys i y → b ≡ p y
    → (b || is_some (position p (take i ys))) ≡ is_some (position p (take (i + 1) ys))
next_in p ys i y b lt is flip =
    let next : suc i ≡ i + 1 = omega arith in
    let grown : take i ys ++ y ∷ [] ≡ take (i + 1) ys = ap (λ z. take i ys ++ z ∷ []) is ∙ sym (take-suc ys i y lt) ∙ ap (λ n. take n ys) next in
    ap₂ (λ (a c : Bool). a || c) flip (found_any p (take i ys))
    ∙ or_flip (p y) (list_any p (take i ys))
    ∙ sym (list_any-append p (take i ys) (y ∷ []))
    ∙ ap (list_any p) grown
    ∙ sym (found_any p (take (i + 1) ys))

-- one more mark beside one more row
pub one_longer : {X : Type 0} (marks : List Bool) (rows : List X) (b : Bool) (x : X) → length marks ≡ length rows → length (marks ++ b ∷ []) ≡ length (rows ++ x ∷ [])
one_longer marks rows b x long = length-append marks (b ∷ []) ∙ ap (λ n. n + 1) long ∙ sym (length-append rows (x ∷ []))

-- the rows whose keys are those of the first of a cut, by a test that goes either way round
module _ {X Y K : Type 0} (key : X → K) (name : Y → K) (same : K → K → Bool) (flips : (a b : K) → same a b ≡ same b a) (ys : List Y) (rows : List X) where
  abbrev pub first_are : ℕ → List Bool
  first_are i = map (λ x. is_some (position (λ y. same (key x) (name y)) (take i ys))) rows

  -- one more of the cut
  pub next_are : (i : ℕ) (y : Y) → i < length ys → y ≡ get_or ys i y → map (λ x. same (name y) (key x) || is_some (position (λ z. same (key x) (name z)) (take i ys))) rows ≡ first_are (i + 1)
  next_are i y lt is =
      map_same _ _ rows (λ x. next_in (λ z. same (key x) (name z)) ys i y (same (name y) (key x)) lt is (flips (name y) (key x)))

  -- all of it
  pub all_are : (i : ℕ) → length ys ≤ i → first_are i ≡ map (λ x. is_some (position (λ y. same (key x) (name y)) ys)) rows
  all_are i ge = ap (λ (zs : List Y). map (λ x. is_some (position (λ y. same (key x) (name y)) zs)) rows) (take_all i ys ge)
