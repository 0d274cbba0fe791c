-- From places among the levels to squeezed prices.
use Rattle.std.specs.Prelude.{ℤ, pos, ◌+ℤ◌, ◌-ℤ◌, ◌<ℤ◌, ◌≤ℤ◌}
use Rattle.std.proofs.Common.{◌≡◌, ℕ, zero, suc, ◌+◌, ◌-◌, ◌*◌, ◌<◌, ◌≤◌, List, [], ◌∷◌, ◌++◌, length, refl, sym, ◌∙◌, ap, subst, inl, inr, ◌⊎◌, arith, set, get_or-set_same, get_or-set_other, below_more, length-append}
use Rattle.std.proofs.Math.ListN.{length-set}
use Rattle.std.proofs.Math.Nat.{mul-le-mul_left}
use Rattle.std.proofs.lemmas.Int.{ints}
use Rattle.std.proofs.lemmas.Bool.{cases_lt}
use Rattle.std.proofs.lemmas.List.{get_or_append_left, get_or_push}
use Rattle.setoff_model.specs.Setoff.{price_at}
use Rattle.setoff_model.proofs.Circulation.{price_past}
use Rattle.setoff_model.proofs.Squeezed.{trichotomy}
use Rattle.setoff_model.specs.Squeezing.{IsSqueezed, IsSqueezedTo, IsNear}
use Rattle.price_squeezing.specs.Levels.{IsLevels, IsRising, IsStep, AreNumbered}

-- the place of the price of f, and the number that it gets
pub record IsPlaced (p q s t : List ℤ) (z : ℤ) (f : ℕ) : Type 0 where
  pub place : ℕ
  pub within : place < length s
  pub at : price_at s place ≡ price_at p f
  pub number : price_at q f ≡ price_at t place -ℤ z

irreflexive : (a b : ℤ) → a ≡ b → a <ℤ b → ⊥
irreflexive a b e lt = omega (arith, ints)

asymmetric : (a b : ℤ) → a <ℤ b → b <ℤ a → ⊥
asymmetric a b lt gt = omega (arith, ints)

-- a higher level stands later
pub later : (s : List ℤ) (i j : ℕ) → IsRising s → i < length s → price_at s i <ℤ price_at s j → i < j
later s i j up in' lt =
    elim (cases_lt i j) as (λ _. i < j) [
      | inl h ↦ h
      | inr h ↦ elim (cases_lt j i) as (λ _. i < j) [
        | inl back ↦ absurd (asymmetric _ _ lt (up j i back in'))
        | inr ge ↦ let e : i ≡ j = omega arith in absurd (irreflexive _ _ (ap (price_at s) e) lt)
      ]
    ]

-- ---- numbers of levels

-- from level i to level j, `gap` is by how much they differ and `rise` by how much their numbers do, with k levels after i
pub record IsRise (widest k : ℕ) (gap rise : ℤ) : Type 0 where
  pub close : gap ≤ℤ pos widest → rise ≡ gap
  pub wide : pos widest <ℤ gap → pos widest ≤ℤ rise
  pub some : pos 0 ≤ℤ rise
  pub most : rise ≤ℤ pos (widest * k)

-- a step is at most `widest`
pub step_is : (widest : ℕ) (gap step : ℤ) → pos 0 <ℤ gap → IsStep widest gap step → (pos 0 ≤ℤ step) × (step ≤ℤ pos widest)
step_is widest gap step up (inl same) = let le = same.0 in let e = same.1 in (omega (arith, ints, e, up), omega (arith, ints, e, le))
step_is widest gap step up (inr far) = let e = far.1 in (omega (arith, ints, e), omega (arith, ints, e))

pub times_more : (w n : ℕ) → 0 < n → w * (n - 1) + w ≡ w * n
times_more w zero some = absurd (omega arith)
times_more w (suc n) some = let e : suc n - 1 ≡ n = omega arith in rw e (omega arith)

pub step_alike : (widest : ℕ) (g h a b : ℤ) → g ≡ h → a ≡ b → IsStep widest g a → IsStep widest h b
step_alike widest g h a b eg ea is = rw (← eg, ← ea) is

-- one level more
rise_more : (widest k : ℕ) (gap rise more step : ℤ) → IsRise widest k gap rise → pos 0 ≤ℤ gap → pos 0 <ℤ more → IsStep widest more step → IsRise widest (k + 1) (gap +ℤ more) (rise +ℤ step)
rise_more widest k gap rise more step before ge up (inl same) =
    let le = same.0 in
    let e = same.1 in
    let some = before.some in
    let most = before.most in
    record {
      close = λ h. let c = before.close (omega (arith, ints, h, up)) in omega (arith, ints, c, e);
      wide = λ h. elim (trichotomy (pos widest) gap) as (λ _. pos widest ≤ℤ (rise +ℤ step)) [
        | inl far ↦ let w = before.wide far in omega (arith, ints, w, e, up)
        | inr rest ↦ let c = before.close (elim rest as (λ _. gap ≤ℤ pos widest) [ inl q ↦ omega (arith, ints, q) | inr q ↦ omega (arith, ints, q) ]) in omega (arith, ints, c, e, h)
      ];
      some = omega (arith, ints, some, e, up);
      most = omega (arith, ints, most, e, le);
    }
rise_more widest k gap rise more step before ge up (inr far) =
    let wide = far.0 in
    let e = far.1 in
    let some = before.some in
    let most = before.most in
    record {
      close = λ h. absurd (omega (arith, ints, h, ge, wide));
      wide = λ h. omega (arith, ints, some, e);
      some = omega (arith, ints, some, e);
      most = omega (arith, ints, most, e);
    }

module _ (widest : ℕ) (s t : List ℤ) (m : ℕ) (up : IsRising s) (few : m ≤ length s) (are : AreNumbered widest s t m) where
  pub rises : (i k : ℕ) → i + k < m → IsRise widest k (price_at s (i + k) -ℤ price_at s i) (price_at t (i + k) -ℤ price_at t i)
  rises i zero in' =
      let same : i + 0 ≡ i = omega arith in
      rw same (record { close = λ _. omega (arith, ints); wide = λ h. absurd (omega (arith, ints, h)); some = omega (arith, ints); most = omega (arith, ints) })
  rises i (suc k) in' =
      let last : i + suc k ≡ (i + k) + 1 = omega arith in
      let before = rises i k (omega arith) in
      let step = are.steps (i + k) (omega arith) in
      let above = up (i + k) ((i + k) + 1) (omega arith) (omega (arith, few)) in
      let ge : pos 0 ≤ℤ (price_at s (i + k) -ℤ price_at s i) = not_below i k (omega arith) in
      let one = rise_more widest k _ _ (price_at s ((i + k) + 1) -ℤ price_at s (i + k)) (price_at t ((i + k) + 1) -ℤ price_at t (i + k)) before ge (omega (arith, ints, above)) step in
      let gap : price_at s ((i + k) + 1) -ℤ price_at s i ≡ (price_at s (i + k) -ℤ price_at s i) +ℤ (price_at s ((i + k) + 1) -ℤ price_at s (i + k)) = omega (arith, ints) in
      let rise : price_at t ((i + k) + 1) -ℤ price_at t i ≡ (price_at t (i + k) -ℤ price_at t i) +ℤ (price_at t ((i + k) + 1) -ℤ price_at t (i + k)) = omega (arith, ints) in
      let length' : k + 1 ≡ suc k = omega arith in
      rw (last, gap, rise, ← length') one
    where
      not_below : (i k : ℕ) → i + k < m → pos 0 ≤ℤ (price_at s (i + k) -ℤ price_at s i)
      not_below i zero in' = let same : i + 0 ≡ i = omega arith in rw same (omega (arith, ints))
      not_below i (suc k) in' = let lt = up i (i + suc k) (omega arith) (omega (arith, few)) in omega (arith, ints, lt)

  -- between two levels, of which the first is no later
  pub rise_between : (i j : ℕ) → i ≤ j → j < m → IsRise widest (j - i) (price_at s j -ℤ price_at s i) (price_at t j -ℤ price_at t i)
  rise_between i j le in' =
      let e : i + (j - i) ≡ j = omega arith in
      subst (λ (k : ℕ). IsRise widest (j - i) (price_at s k -ℤ price_at s i) (price_at t k -ℤ price_at t i)) e (rises i (j - i) (omega (arith, e)))

  pub number_is : (j : ℕ) → j < m → (pos 0 ≤ℤ price_at t j) × (price_at t j ≤ℤ pos (widest * j))
  number_is j in' =
      let first = are.first (omega arith) in
      let all : j - 0 ≡ j = omega arith in
      let r = rise_between 0 j (omega arith) in' in
      let some = r.some in
      let most : (price_at t j -ℤ price_at t 0) ≤ℤ pos (widest * j) = rw all at r.most in
      (omega (arith, ints, first, some), omega (arith, ints, first, most))

-- one number more
pub numbered_more : (widest : ℕ) (s t : List ℤ) (m : ℕ) (v : ℤ) → AreNumbered widest s t m → (m ≡ 0 → v ≡ pos 0) →
    ((k : ℕ) → k + 1 ≡ m → IsStep widest (price_at s m -ℤ price_at s k) (v -ℤ price_at t k)) → AreNumbered widest s (t ++ v ∷ []) (m + 1)
numbered_more widest s t m v are none step =
    let last : price_at (t ++ v ∷ []) m ≡ v = get_or_push t v (pos 0) m are.one_each in
    let kept : (k : ℕ) → k < m → price_at (t ++ v ∷ []) k ≡ price_at t k = λ k lt. get_or_append_left t (v ∷ []) (pos 0) k (omega (arith, are.one_each, lt)) in
    record {
      one_each = length-append t (v ∷ []) ∙ omega (arith, are.one_each);
      first = λ _. elim (cases_lt 0 m) as (λ _. price_at (t ++ v ∷ []) 0 ≡ pos 0) [
        | inl some ↦ kept 0 some ∙ are.first some
        | inr zero' ↦ let e : m ≡ 0 = omega arith in ap (λ k. price_at (t ++ v ∷ []) k) (sym e) ∙ last ∙ none e
      ];
      steps = λ k lt. elim (cases_lt (k + 1) m) as (λ _. IsStep widest (price_at s (k + 1) -ℤ price_at s k) (price_at (t ++ v ∷ []) (k + 1) -ℤ price_at (t ++ v ∷ []) k)) [
        | inl before ↦ rw (kept (k + 1) before, kept k (omega (arith, before))) (are.steps k before)
        | inr at ↦ let e : k + 1 ≡ m = omega (arith, lt, at) in rw (e, last, kept k (omega (arith, e))) (step k e)
      ];
    }

-- ---- squeezed prices

-- a place past the last has price 0, which has its level too
placed_all : (p q s t : List ℤ) (g : ℕ) → length q ≡ length p → g < length s → price_at s g ≡ pos 0
    → ((f : ℕ) → f < length p → IsPlaced p q s t (price_at t g) f) → (f : ℕ) → IsPlaced p q s t (price_at t g) f
placed_all p q s t g same in' ground each f =
    elim (cases_lt f (length p)) as (λ _. IsPlaced p q s t (price_at t g) f) [
      | inl h ↦ each f h
      | inr h ↦ record {
        place = g;
        within = in';
        at = ground ∙ sym (price_past p f h);
        number = price_past q f (omega arith) ∙ (let e : pos 0 ≡ price_at t g -ℤ price_at t g = omega (arith, ints) in e);
      }
    ]

module _ (widest : ℕ) (p q s t : List ℤ) (z : ℤ) (levels : IsLevels p s) (are : AreNumbered widest s t (length s)) where
  -- a level that is no higher stands no later
  no_later : (i j : ℕ) → i < length s → price_at s i ≤ℤ price_at s j → i ≤ j
  no_later i j in' le = elim (cases_lt j i) as (λ _. i ≤ j) [
    | inl back ↦ let lt = levels.rising j i back in' in absurd (omega (arith, ints, lt, le))
    | inr ge ↦ ge
  ]

  -- of two prices, the first no higher
  placed_rise : (f g : ℕ) → (a : IsPlaced p q s t z f) → (b : IsPlaced p q s t z g) → price_at p f ≤ℤ price_at p g → (k : ℕ) × IsRise widest k (price_at p g -ℤ price_at p f) (price_at q g -ℤ price_at q f)
  placed_rise f g a b le =
      let order : a.place ≤ b.place = no_later a.place b.place a.within (omega (arith, ints, a.at, b.at, le)) in
      let r = rise_between widest s t (length s) levels.rising (omega arith) are a.place b.place order b.within in
      let gap : price_at s b.place -ℤ price_at s a.place ≡ price_at p g -ℤ price_at p f = rw (a.at, b.at) refl in
      let rise : price_at t b.place -ℤ price_at t a.place ≡ price_at q g -ℤ price_at q f = omega (arith, ints, a.number, b.number) in
      (b.place - a.place, rw (← gap, ← rise) r)

-- two prices with none between them stand at neighbouring levels
placed_next : (widest : ℕ) (p q s t : List ℤ) (z : ℤ) (f g : ℕ) → IsLevels p s → AreNumbered widest s t (length s) → IsPlaced p q s t z f → IsPlaced p q s t z g →
    (price_at p f +ℤ pos widest) <ℤ price_at p g → ((h : ℕ) → price_at p f <ℤ price_at p h → price_at p h <ℤ price_at p g → ⊥) → price_at q g ≡ price_at q f +ℤ pos widest
placed_next widest p q s t z f g levels are a b far none =
    let lt : price_at s a.place <ℤ price_at s b.place = omega (arith, ints, a.at, b.at, far) in
    let before : a.place < b.place = later s a.place b.place levels.rising a.within lt in
    elim (cases_lt (a.place + 1) b.place) as (λ _. price_at q g ≡ price_at q f +ℤ pos widest) [
      | inl gap ↦
          let mid = levels.only (a.place + 1) (omega (arith, b.within)) in
          let up = levels.rising a.place (a.place + 1) (omega arith) (omega (arith, b.within)) in
          let down = levels.rising (a.place + 1) b.place gap b.within in
          let e = mid.1 in
          absurd (none mid.0 (omega (arith, ints, up, e, a.at)) (omega (arith, ints, down, e, b.at)))
      | inr next ↦
          let last : a.place + 1 ≡ b.place = omega (arith, before, next) in
          let step = are.steps a.place (omega (arith, last, b.within)) in
          let there : IsStep widest (price_at s b.place -ℤ price_at s a.place) (price_at t b.place -ℤ price_at t a.place) = rw (← last) step in
          elim there as (λ _. price_at q g ≡ price_at q f +ℤ pos widest) [
            | inl same ↦ let le = same.0 in absurd (omega (arith, ints, le, a.at, b.at, far))
            | inr wide ↦ let e = wide.1 in omega (arith, ints, e, a.number, b.number)
          ]
    ]

pub squeezed : (widest : ℕ) (p q s t : List ℤ) (g : ℕ) → IsLevels p s → AreNumbered widest s t (length s) → length q ≡ length p → g < length s → price_at s g ≡ pos 0
    → ((f : ℕ) → f < length p → IsPlaced p q s t (price_at t g) f) → IsSqueezedTo widest p q
squeezed widest p q s t g levels are same in' start each =
    let all = placed_all p q s t g same in' start each in
    record {
      one_each = same;
      close = λ f h le near. (placed_rise widest p q s t (price_at t g) levels are f h (all f) (all h) le).1.close (omega (arith, ints, near));
      wide = λ f h far. let w = (placed_rise widest p q s t (price_at t g) levels are f h (all f) (all h) (omega (arith, ints, far))).1.wide (omega (arith, ints, far)) in omega (arith, ints, w);
      next = λ f h far none. placed_next widest p q s t (price_at t g) f h levels are (all f) (all h) far none;
      zero = λ f e.
          let ground = price_past p (length p) (omega arith) in
          let after = price_past q (length p) (omega arith) in
          let c = (placed_rise widest p q s t (price_at t g) levels are (length p) f (all (length p)) (all f) (omega (arith, ints, e, ground))).1.close (omega (arith, ints, e, ground)) in
          omega (arith, ints, c, e, ground, after);
    }

pub near : (widest : ℕ) (p q s t : List ℤ) (g : ℕ) → IsLevels p s → AreNumbered widest s t (length s) → length q ≡ length p → g < length s
    → ((f : ℕ) → f < length p → IsPlaced p q s t (price_at t g) f) → IsNear (widest * length p) q
near widest p q s t g levels are same in' each f h =
    let placed : IsPlaced p q s t (price_at t g) f = each f (omega arith) in
    let own = number_is widest s t (length s) levels.rising (omega arith) are placed.place placed.within in
    let ground = number_is widest s t (length s) levels.rising (omega arith) are g in' in
    let most : widest * placed.place ≤ widest * length p = mul-le-mul_left widest (omega (arith, levels.few, placed.within)) in
    let most_g : widest * g ≤ widest * length p = mul-le-mul_left widest (omega (arith, levels.few, in')) in
    let o0 = own.0 in let o1 = own.1 in let g0 = ground.0 in let g1 = ground.1 in
    omega (arith, ints, o0, o1, g0, g1, most, most_g, placed.number)

-- gaps narrowed to 1
pub squeezed_to_one : (p q : List ℤ) → IsSqueezedTo 1 p q → IsSqueezed p q
squeezed_to_one p q to = record {
  one_each = to.one_each;
  same = λ f g e. let c = to.close f g (omega (arith, ints, e)) (omega (arith, ints, e)) in omega (arith, ints, c, e);
  rising = λ f g lt. elim (trichotomy (price_at p f +ℤ pos 1) (price_at p g)) as (λ _. price_at q f <ℤ price_at q g) [
    | inl far ↦ let w = to.wide f g far in omega (arith, ints, w)
    | inr rest ↦ let c = to.close f g (omega (arith, ints, lt)) (at_most rest) in omega (arith, ints, c, lt)
  ];
  neighbours = λ f g lt none. elim (trichotomy (price_at p f +ℤ pos 1) (price_at p g)) as (λ _. price_at q g ≡ price_at q f +ℤ pos 1) [
    | inl far ↦ to.next f g far none
    | inr rest ↦ let c = to.close f g (omega (arith, ints, lt)) (at_most rest) in let le = at_most rest in omega (arith, ints, c, lt, le)
  ];
  zero = to.zero;
}
  where
    at_most : {a b : ℤ} → (a ≡ b) ⊎ (b <ℤ a) → b ≤ℤ a
    at_most (inl e) = omega (arith, ints, e)
    at_most (inr h) = omega (arith, ints, h)

-- the places of the prices before n are known, and the others are as they were
pub record IsPlacedBelow (p q s t : List ℤ) (z : ℤ) (n : ℕ) : Type 0 where
  pub long : length q ≡ length p
  pub done : (f : ℕ) → f < n → IsPlaced p q s t z f
  pub kept : (f : ℕ) → n ≤ f → price_at q f ≡ price_at p f

pub placed_more : (p q s t : List ℤ) (z : ℤ) (n k : ℕ) (v : ℤ) → IsPlacedBelow p q s t z n → n < length q → k < length s
    → price_at s k ≡ price_at q n → v ≡ price_at t k -ℤ z → IsPlacedBelow p (set q n v) s t z (n + 1)
placed_more p q s t z n k v before in' within at number = record {
  long = length-set q n v ∙ before.long;
  done = below_more (IsPlaced p (set q n v) s t z) n
      (λ f lt.
      let old = before.done f lt in
      record {
        place = old.place;
        within = old.within;
        at = old.at;
        number = get_or-set_other q n f v (pos 0) (λ e. absurd (omega (arith, e))) ∙ old.number;
      })
      (record { place = k; within = within; at = at ∙ before.kept n (omega arith); number = get_or-set_same q n v (pos 0) in' ∙ number });
  kept = λ f le. get_or-set_other q n f v (pos 0) (λ e. absurd (omega (arith, e))) ∙ before.kept f (omega arith);
}

-- the number of the ground, named otherwise
pub placed_from : (p q s t : List ℤ) (z y : ℤ) (f : ℕ) → z ≡ y → IsPlaced p q s t z f → IsPlaced p q s t y f
placed_from p q s t z y f e is = rw (← e) is
