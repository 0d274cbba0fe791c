-- The one row of a table that passes a test.
use Rattle.setoff_model.proofs.Lists.{position_none}
use Rattle.std.specs.Prelude.{map, set, find, position, Option, Some, None, is_some, sum_by, count_by, if◌then◌else◌}
use Rattle.std.specs.List.{list_any, position_or_len, slice_get}
use Rattle.std.proofs.Common.{◌≡◌, ℕ, zero, suc, ◌+◌, ◌<◌, ◌≤◌, Bool, true, false, cond, ◌||◌, List, [], ◌∷◌, nat_lt, length, get_or, refl, sym, ◌∙◌, ap, ap₂, subst, true≢false, arith}
use Rattle.std.proofs.lemmas.Bool.{or_parts, cond-true, cond-false}
use Rattle.std.proofs.lemmas.List.Sums.{sum_by-cons, get_or-le-sum_by}
use Rattle.std.proofs.lemmas.List.Folds.{find_at}
use Rattle.std.proofs.lemmas.Option.{cond_some, slice_get-get_or}
use Rattle.std.proofs.lemmas.List.Quantifiers.{position-Some}

-- ---- none passes

-- how many pass, with one more in front
pub count_cons : {X : Type 0} (p : X → Bool) (x : X) (xs : List X) → count_by p (x ∷ xs) ≡ cond (p x) 1 0 + count_by p xs
count_cons p x xs = sum_by-cons (λ y. cond (p y) 1 0) x xs

pub count_none : {X : Type 0} (p : X → Bool) (xs : List X) → list_any p xs ≡ false → count_by p xs ≡ 0
count_none p [] none = refl
count_none p (x ∷ xs) none =
    let parts = or_parts (p x) (list_any p xs) none in
    count_cons p x xs ∙ ap₂ (λ (a b : ℕ). a + b) (cond-false (p x) 1 0 parts.0) (count_none p xs parts.1)

found_step : {X : Type 0} (b : Bool) (x : X) (rest : Option X) (any : Bool) → is_some rest ≡ any → is_some (cond b (Some x) rest) ≡ (b || any)
found_step true x rest any h = refl
found_step false x rest any h = h

pub found_any : {X : Type 0} (p : X → Bool) (xs : List X) → is_some (find p xs) ≡ list_any p xs
found_any p [] = refl
found_any p (x ∷ xs) = found_step (p x) x (find p xs) (list_any p xs) (found_any p xs)

-- ---- at most one passes

pub one_left : (b : Bool) (n : ℕ) → cond b 1 0 + n ≤ 1 → 1 ≤ n → b ≡ false
one_left true n le more = absurd (omega (arith, le, more))
one_left false n le more = refl

pub passes : {X : Type 0} (p : X → Bool) (xs : List X) (i : ℕ) (d : X) → i < length xs → p (get_or xs i d) ≡ true → 1 ≤ count_by p xs
passes p xs i d lt here = subst (λ n. n ≤ count_by p xs) (cond-true (p (get_or xs i d)) 1 0 here) (get_or-le-sum_by (λ x. cond (p x) 1 0) xs i d lt)

-- the first that passes is the one at any place that passes
pub find_once : {X : Type 0} (p : X → Bool) (xs : List X) (i : ℕ) (d : X) → i < length xs → p (get_or xs i d) ≡ true → count_by p xs ≤ 1 → find p xs ≡ Some (get_or xs i d)
find_once p [] i d lt here once = absurd (omega (arith, lt))
find_once p (x ∷ xs) zero d lt here once = cond-true (p x) (Some x) (find p xs) here
find_once p (x ∷ xs) (suc i) d lt here once =
    let more : 1 ≤ count_by p xs = passes p xs i d (omega (arith, lt)) here in
    let both : cond (p x) 1 0 + count_by p xs ≤ 1 = subst (λ n. n ≤ 1) (count_cons p x xs) once in
    let other : p x ≡ false = one_left (p x) (count_by p xs) both more in
    cond-false (p x) (Some x) (find p xs) other ∙ find_once p xs i d (omega (arith, lt)) here (omega (arith, both))

pub no_one : (b : Bool) (n : ℕ) → cond b 1 0 + n ≡ 0 → b ≡ false
no_one true n e = absurd (omega (arith, e))
no_one false n e = refl

pub last_one : (b : Bool) (n : ℕ) → b ≡ true → cond b 1 0 + n ≤ 1 → n ≡ 0
last_one true n e le = omega (arith, le)
last_one false n e le = absurd (true≢false (sym e))

-- a step that leaves each row that does not pass
pub map_none : {X : Type 0} (p : X → Bool) (step : X → X) (xs : List X) → count_by p xs ≡ 0 → ((x : X) → p x ≡ false → step x ≡ x) → map step xs ≡ xs
map_none p step [] none leaves = refl
map_none p step (x ∷ xs) none leaves =
    let both : cond (p x) 1 0 + count_by p xs ≡ 0 = sym (count_cons p x xs) ∙ none in
    ap₂ (λ y ys. y ∷ ys) (leaves x (no_one (p x) (count_by p xs) both)) (map_none p step xs (omega (arith, both)) leaves)

-- one row set is each row stepped
pub set_is_map : {X : Type 0} (p : X → Bool) (step : X → X) (xs : List X) (i : ℕ) (d : X) → i < length xs → p (get_or xs i d) ≡ true → count_by p xs ≤ 1 → ((x : X) → p x ≡ false → step x ≡ x)
    → set xs i (step (get_or xs i d)) ≡ map step xs
set_is_map p step [] i d lt here once leaves = absurd (omega (arith, lt))
set_is_map p step (x ∷ xs) zero d lt here once leaves =
    let both : cond (p x) 1 0 + count_by p xs ≤ 1 = subst (λ n. n ≤ 1) (count_cons p x xs) once in
    ap (λ ys. step x ∷ ys) (sym (map_none p step xs (last_one (p x) (count_by p xs) here both) leaves))
set_is_map p step (x ∷ xs) (suc i) d lt here once leaves =
    let more : 1 ≤ count_by p xs = passes p xs i d (omega (arith, lt)) here in
    let both : cond (p x) 1 0 + count_by p xs ≤ 1 = subst (λ n. n ≤ 1) (count_cons p x xs) once in
    let other : p x ≡ false = one_left (p x) (count_by p xs) both more in
    ap₂ (λ y ys. y ∷ ys) (sym (leaves x other)) (set_is_map p step xs i d (omega (arith, lt)) here (omega (arith, both)) leaves)

-- ---- tables

pub map_map : {X Y : Type 0} (h : Y → Y) (f g : X → Y) (xs : List X) → ((x : X) → h (f x) ≡ g x) → map h (map f xs) ≡ map g xs
map_map h f g [] same = refl
map_map h f g (x ∷ xs) same = ap₂ (λ y ys. y ∷ ys) (same x) (map_map h f g xs same)

pub sum_by-map : {X Y : Type 0} (m : Y → ℕ) (f : X → Y) (xs : List X) → sum_by m (map f xs) ≡ sum_by (λ x. m (f x)) xs
sum_by-map m f [] = refl
sum_by-map m f (x ∷ xs) = sum_by-cons m (f x) (map f xs) ∙ ap (λ n. m (f x) + n) (sum_by-map m f xs) ∙ sym (sum_by-cons (λ y. m (f y)) x xs)

-- ---- a step of the one row

pub step_at : {X : Type 0} (p : X → Bool) (change : X → X) (xs : List X) (i : ℕ) (d : X) → position p xs ≡ Some i → count_by p xs ≤ 1 → set xs i (change (get_or xs i d)) ≡ map (λ x. if p x then change x else x) xs
step_at p change xs i d found once =
    let at = position-Some p xs i d found in
    ap (set xs i) (sym (cond-true (p (get_or xs i d)) (change (get_or xs i d)) (get_or xs i d) at.1))
    ∙ set_is_map p (λ x. if p x then change x else x) xs i d at.0 at.1 once (λ x other. cond-false (p x) (change x) x other)

pub step_none : {X : Type 0} (p : X → Bool) (change : X → X) (xs : List X) → position p xs ≡ None → xs ≡ map (λ x. if p x then change x else x) xs
step_none p change xs none =
    sym (map_none p (λ x. if p x then change x else x) xs (count_none p xs (position_none p xs none)) (λ x other. cond-false (p x) (change x) x other))

-- ---- what stands at the place

pub find_place : {X : Type 0} (p : X → Bool) (xs : List X) (i : ℕ) (d : X) → position p xs ≡ Some i → Some (get_or xs i d) ≡ find p xs
find_place p xs i d found =
    let at = position-Some p xs i d found in
    let is = cond_some (nat_lt (position_or_len p xs) (length xs)) (position_or_len p xs) i found in
    sym (find_at p xs ∙ ap (slice_get xs) is.1 ∙ slice_get-get_or xs i d at.0)

not_found : {X : Type 0} (o : Option X) → is_some o ≡ false → None ≡ o
not_found None e = refl
not_found (Some x) e = absurd (true≢false e)

pub find_no_place : {X : Type 0} (p : X → Bool) (xs : List X) → position p xs ≡ None → None ≡ find p xs
find_no_place p xs none = not_found (find p xs) (found_any p xs ∙ position_none p xs none)
