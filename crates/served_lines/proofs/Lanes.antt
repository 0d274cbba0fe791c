-- A sum over all lanes is at most another where it is so in each lane.
use Rattle.std.specs.Prelude.{cond, filter, nat_lt}
use Rattle.std.specs.List.{sum_by}
use Rattle.std.proofs.Common.{◌≡◌, ◌∙◌, ◌==◌, ℕ, zero, suc, ◌+◌, ◌<◌, ◌≤◌, Bool, true, false, List, [], ◌∷◌, refl, ap, arith}
use Rattle.std.proofs.lemmas.Bool.{eqb-true, eqb-false, le-ltb, ltb-true, ltb-false}
use Rattle.std.proofs.lemmas.List.Sums.{sum_by-cons}

-- what is summed over the members whose key is below a number
abbrev part : {X : Type 0} → (X → ℕ) → (X → ℕ) → ℕ → List X → ℕ
part key f n xs = sum_by (λ x. cond (nat_lt (key x) n) (f x) 0) xs

one_step : (k n w : ℕ) (more below at : Bool) → nat_lt k (suc n) ≡ more → nat_lt k n ≡ below → (k == n) ≡ at → cond more w 0 ≡ cond below w 0 + cond at w 0
one_step k n w true true true m b a = absurd (omega (arith, ltb-true _ _ b, eqb-true _ _ a))
one_step k n w true true false m b a = omega arith
one_step k n w true false true m b a = omega arith
one_step k n w true false false m b a = absurd (eqb-false _ _ a (omega (arith, ltb-true _ _ m, ltb-false _ _ b)))
one_step k n w false true at m b a = absurd (omega (arith, ltb-false _ _ m, ltb-true _ _ b))
one_step k n w false false true m b a = absurd (omega (arith, ltb-false _ _ m, eqb-true _ _ a))
one_step k n w false false false m b a = omega arith

module _ {X : Type 0} (key f : X → ℕ) where
  at_one : (n : ℕ) (x : X) (xs : List X) (b : Bool) → (key x == n) ≡ b → sum_by f (filter (λ y. key y == n) (x ∷ xs)) ≡ cond b (f x) 0 + sum_by f (filter (λ y. key y == n) xs)
  at_one n x xs true is = ap (λ (c : Bool). sum_by f (cond c (x ∷ filter (λ y. key y == n) xs) (filter (λ y. key y == n) xs))) is ∙ sum_by-cons f x (filter (λ y. key y == n) xs)
  at_one n x xs false is = omega (arith, ap (λ (c : Bool). sum_by f (cond c (x ∷ filter (λ y. key y == n) xs) (filter (λ y. key y == n) xs))) is)

  part_step : (n : ℕ) (xs : List X) → part key f (suc n) xs ≡ part key f n xs + sum_by f (filter (λ x. key x == n) xs)
  part_step n [] = omega arith
  part_step n (x ∷ xs) =
      omega (
        arith,
        sum_by-cons (λ (y : X). cond (nat_lt (key y) (suc n)) (f y) 0) x xs,
        sum_by-cons (λ (y : X). cond (nat_lt (key y) n) (f y) 0) x xs,
        at_one n x xs (key x == n) refl,
        one_step (key x) n (f x) (nat_lt (key x) (suc n)) (nat_lt (key x) n) (key x == n) refl refl refl,
        part_step n xs,
      )

  none_below : (xs : List X) → part key f zero xs ≡ 0
  none_below [] = omega arith
  none_below (x ∷ xs) =
      omega (arith, sum_by-cons (λ (y : X). cond (nat_lt (key y) zero) (f y) 0) x xs, ap (λ (b : Bool). cond b (f x) 0) (le-ltb (key x) zero (omega arith)), none_below xs)

  some_below : (b : Bool) (w : ℕ) → cond b w 0 ≤ w
  some_below true w = omega arith
  some_below false w = omega arith

  part_le : (n : ℕ) (xs : List X) → part key f n xs ≤ sum_by f xs
  part_le n [] = omega arith
  part_le n (x ∷ xs) = omega (arith, sum_by-cons (λ (y : X). cond (nat_lt (key y) n) (f y) 0) x xs, sum_by-cons f x xs, some_below (nat_lt (key x) n) (f x), part_le n xs)

  all_below : (k n w : ℕ) (b : Bool) → nat_lt k n ≡ b → k < n → cond b w 0 ≡ w
  all_below k n w true is lt = refl
  all_below k n w false is lt = absurd (omega (arith, ltb-false _ _ is, lt))

  -- no key is above the sum of the keys
  part_all : (n : ℕ) (xs : List X) → sum_by key xs < n → part key f n xs ≡ sum_by f xs
  part_all n [] lt = refl
  part_all n (x ∷ xs) lt =
      let keys : sum_by key (x ∷ xs) ≡ key x + sum_by key xs = sum_by-cons key x xs in
      omega (
        arith,
        sum_by-cons (λ (y : X). cond (nat_lt (key y) n) (f y) 0) x xs,
        sum_by-cons f x xs,
        all_below (key x) n (f x) (nat_lt (key x) n) refl (omega (arith, lt, keys)),
        part_all n xs (omega (arith, lt, keys)),
      )

module _ {X Y : Type 0} (key f : X → ℕ) (place g : Y → ℕ) (xs : List X) (ys : List Y)
    (each : (n : ℕ) → sum_by f (filter (λ x. key x == n) xs) ≤ sum_by g (filter (λ y. place y == n) ys)) where
  parts_le : (n : ℕ) → part key f n xs ≤ part place g n ys
  parts_le zero = omega (arith, none_below key f xs)
  parts_le (suc n) = omega (arith, part_step key f n xs, part_step place g n ys, parts_le n, each n)

  pub lanes_le : sum_by f xs ≤ sum_by g ys
  lanes_le =
      let n : ℕ = suc (sum_by key xs) in
      omega (arith, part_all key f n xs (omega arith), parts_le n, part_le place g n ys)
