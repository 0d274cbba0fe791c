-- What a test finds in a list: whether, where, and what.
use Rattle.std.specs.Prelude.{find, position, Option, Some, None, if◌then◌else◌}
use Rattle.std.specs.List.{list_any, position_or_len, slice_get}
use Rattle.std.proofs.Common.{◌≡◌, ℕ, suc, ◌+◌, Bool, true, false, not, cond, ◌||◌, List, [], ◌∷◌, ◌++◌, nat_lt, length, get_or, refl, sym, ◌∙◌, ap, true≢false, arith}
use Rattle.std.proofs.lemmas.Bool.{or_parts, or_right}
use Rattle.std.proofs.lemmas.List.Folds.{list_any_at, list_any-append, find_at}
use Rattle.std.proofs.lemmas.Option.{cond_some, slice_get-get_or}
use Rattle.std.proofs.lemmas.List.Quantifiers.{position-Some}
use Rattle.setoff_model.proofs.Lists.{or_rest}

-- ---- whether

pub or_left : (a b : Bool) → a ≡ true → (a || b) ≡ true
or_left true b e = refl
or_left false b e = absurd (true≢false (sym e))

-- ---- where

stay_step : (b : Bool) (n m : ℕ) → (b ≡ false → n ≡ m) → cond (not b) (1 + n) 0 ≡ cond (not b) (1 + m) 0
stay_step true n m h = refl
stay_step false n m h = ap (λ k. 1 + k) (h refl)

-- a first place stays, whatever is put at the end
pub place_push : {X : Type 0} (p : X → Bool) (xs : List X) (y : X) → list_any p xs ≡ true → position_or_len p (xs ++ y ∷ []) ≡ position_or_len p xs
place_push p [] y e = absurd (true≢false (sym e))
place_push p (x ∷ xs) y e = stay_step (p x) _ _ (λ f. place_push p xs y (or_rest (p x) (list_any p xs) e f))

pub place_stays : {X : Type 0} (p : X → Bool) (b : Bool) (xs : List X) (y : X) → list_any p xs ≡ true → position_or_len p (if b then xs else xs ++ y ∷ []) ≡ position_or_len p xs
place_stays p true xs y e = refl
place_stays p false xs y e = place_push p xs y e

last_step : (b : Bool) (n m : ℕ) → b ≡ false → n ≡ m → cond (not b) (1 + n) 0 ≡ suc m
last_step true n m none e = absurd (true≢false none)
last_step false n m none e = omega (arith, e)

last_here : (b : Bool) → b ≡ true → cond (not b) (1 + 0) 0 ≡ 0
last_here true e = refl
last_here false e = absurd (true≢false (sym e))

-- what is first at the end
pub place_last : {X : Type 0} (p : X → Bool) (xs : List X) (y : X) → list_any p xs ≡ false → p y ≡ true → position_or_len p (xs ++ y ∷ []) ≡ length xs
place_last p [] y none here = last_here (p y) here
place_last p (x ∷ xs) y none here =
    let parts = or_parts (p x) (list_any p xs) none in
    last_step (p x) (position_or_len p (xs ++ y ∷ [])) (length xs) parts.0 (place_last p xs y parts.1 here)

pub any_stays : {X : Type 0} (p : X → Bool) (b : Bool) (xs : List X) (y : X) → list_any p xs ≡ true → list_any p (if b then xs else xs ++ y ∷ []) ≡ true
any_stays p true xs y e = e
any_stays p false xs y e = list_any-append p xs (y ∷ []) ∙ or_left (list_any p xs) (list_any p (y ∷ [])) e

-- what is joined is there
pub any_joined : {X : Type 0} (p : X → Bool) (b : Bool) (xs : List X) (y : X) → list_any p xs ≡ b → p y ≡ true → list_any p (if b then xs else xs ++ y ∷ []) ≡ true
any_joined p true xs y e here = e
any_joined p false xs y e here = list_any-append p xs (y ∷ []) ∙ or_right (list_any p xs) (list_any p (y ∷ [])) (or_left (p y) false here)

-- ---- what

pub position_any : {X : Type 0} (p : X → Bool) (xs : List X) (i : ℕ) (d : X) → position p xs ≡ Some i → list_any p xs ≡ true
position_any p xs i d found = let at = position-Some p xs i d found in list_any_at p xs i d at.0 at.1

pub found_at : {X : Type 0} (p : X → Bool) (xs : List X) (i : ℕ) (d : X) → position p xs ≡ Some i → find p xs ≡ Some (get_or xs i d)
found_at p xs i d found =
    let at = position-Some p xs i d found in
    let is = cond_some (nat_lt (position_or_len p xs) (length xs)) (position_or_len p xs) i found in
    find_at p xs ∙ ap (slice_get xs) is.1 ∙ slice_get-get_or xs i d at.0

none_step : {X : Type 0} (b : Bool) (x : X) (rest : Option X) (any : Bool) → (b || any) ≡ false → (any ≡ false → rest ≡ None) → cond b (Some x) rest ≡ None
none_step true x rest any e later = absurd (true≢false e)
none_step false x rest any e later = later e

pub find_none : {X : Type 0} (p : X → Bool) (xs : List X) → list_any p xs ≡ false → find p xs ≡ None
find_none p [] e = refl
find_none p (x ∷ xs) e = none_step (p x) x (find p xs) (list_any p xs) e (find_none p xs)
