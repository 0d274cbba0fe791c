-- Elements of a list, each and two by two.
use Rattle.std.specs.Prelude.{map, flat_map, find, reverse, Option, Some, IfSome}
use Rattle.std.proofs.Common.{◌≡◌, ◌-◌, ◌≤◌, Bool, true, false, cond, List, [], ◌∷◌, length, get_or, All, AllPairs, sym, subst₂, ⊎_elim, arith}
use Rattle.std.proofs.lemmas.Bool.{cases_lt}
use Rattle.std.proofs.lemmas.List.{get_or-map, get_or-reverse, length-map, length-reverse}
use Rattle.std.proofs.lemmas.List.Elements.{All-nil, All-head, All-tail, All-append}

pub pairs_map : {X Y : Type 0} (R : Y → Y → Type 0) (f : X → Y) (xs : List X) (none : X) → AllPairs (λ a b. R (f a) (f b)) xs → AllPairs R (map f xs)
pairs_map R f xs none pairs = λ i j d lt within.
    let long : length (map f xs) ≡ length xs = length-map xs f in
    subst₂ R (sym (get_or-map f xs i none d (omega (arith, lt, within, long)))) (sym (get_or-map f xs j none d (omega (arith, within, long)))) (pairs i j none lt (omega (arith, within, long)))

pub pairs_reverse : {X : Type 0} (R : X → X → Type 0) → ((a b : X) → R a b → R b a) → (xs : List X) → AllPairs R xs → AllPairs R (reverse xs)
pairs_reverse R flip xs pairs = λ i j d lt within.
    let long : length (reverse xs) ≡ length xs = length-reverse xs in
    let at_i = get_or-reverse xs i d (omega (arith, lt, within, long)) in
    let at_j = get_or-reverse xs j d (omega (arith, within, long)) in
    subst₂ R (sym at_i) (sym at_j) (flip (get_or xs (length xs - 1 - j) d) (get_or xs (length xs - 1 - i) d) (pairs (length xs - 1 - j) (length xs - 1 - i) d (omega (arith, lt, within, long)) (omega (arith, lt, within, long))))

-- two elements that differ are not both of one kind
pub at_most_one : {X : Type 0} (R : X → X → Type 0) (P : X → Type 0) (none : X) → ((a b : X) → P a → P b → R a b → ⊥) → (xs : List X) → AllPairs R xs → All P xs → length xs ≤ 1
at_most_one R P none never xs pairs all =
    ⊎_elim
    (λ two. absurd (never (get_or xs 0 none) (get_or xs 1 none) (all 0 none (omega (arith, two))) (all 1 none two) (pairs 0 1 none (omega arith) two)))
    (λ few. few)
    (cases_lt 1 (length xs))

pub All-flat_map : {X A : Type 0} (P : A → Type 0) (f : X → List A) (xs : List X) → All (λ x. All P (f x)) xs → All P (flat_map f xs)
All-flat_map P f [] all = All-nil P
All-flat_map P f (x ∷ xs) all =
    All-append P (f x) (flat_map f xs) (All-head (λ y. All P (f y)) x xs all) (All-flat_map P f xs (All-tail (λ y. All P (f y)) x xs all))

found_step : {X : Type 0} (P : X → Type 0) (b : Bool) (x : X) (rest : Option X) → P x → IfSome rest P → IfSome (cond b (Some x) rest) P
found_step P true x rest here later = here
found_step P false x rest here later = later

-- what is found is one of them
pub found_all : {X : Type 0} (P : X → Type 0) (p : X → Bool) (xs : List X) → All P xs → IfSome (find p xs) P
found_all P p [] all = tt
found_all P p (x ∷ xs) all = found_step P (p x) x (find p xs) (All-head P x xs all) (found_all P p xs (All-tail P x xs all))
