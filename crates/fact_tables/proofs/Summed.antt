-- Running sums follow the claims.
use Rattle.std.specs.Prelude.{is_some, map, filter, sum, sum_by, set, position, Option, Some, None, if◌then◌else◌, slice_index}
use Rattle.std.specs.List.{list_any}
use Rattle.std.proofs.Common.{◌≡◌, ℕ, zero, suc, ◌+◌, ◌-◌, ◌<◌, ◌≤◌, ◌^◌, Bool, true, false, cond, List, [], ◌∷◌, ◌++◌, length, get_or, refl, sym, ◌∙◌, ap, subst, true≢false, arith}
use Rattle.std.proofs.lemmas.Bool.{cond-true, cond-false, or_right}
use Rattle.std.proofs.lemmas.List.{get_or-set_same, get_or-set_other, get_or_default}
use Rattle.std.proofs.lemmas.List.Elements.{All-push, All-set}
use Rattle.std.proofs.lemmas.List.Folds.{list_any-append}
use Rattle.std.proofs.lemmas.List.Sums.{sum_by-cons, sum_by-set, sum_by-append, get_or-le-sum_by, sum_by-le-sum_by}
use Rattle.std.proofs.lemmas.List.Quantifiers.{position-Some}
use Rattle.setoff_model.specs.Same.{same_name}
use Rattle.setoff_model.proofs.Lists.{position_none}
use Rattle.setoff_model.proofs.SameNames.{same_name_is, name_same}
use Rattle.claim_history.specs.declared.fact.ClaimFact.{ClaimFact}
use Rattle.claim_history.specs.Facts.{at_place}
use Rattle.name_index.proofs.Places.{position_any, or_left}
use Rattle.name_index.proofs.Pushed.{none_there, pushed_here, pushed_other}
use Rattle.fact_tables.specs.Sums.{SumsView, sum_of, has_sum, owed_at, AreSums}
use Rattle.fact_tables.proofs.Settle.{not_one}

-- ---- a sum begun

at_none : (xs : List ℕ) → get_or xs (length xs) 0 ≡ 0
at_none [] = refl
at_none (x ∷ xs) = at_none xs

-- a 0 at the end is what a place past the end has
zero_last : (xs : List ℕ) (i : ℕ) → get_or (xs ++ 0 ∷ []) i 0 ≡ get_or xs i 0
zero_last [] zero = refl
zero_last [] (suc i) = refl
zero_last (x ∷ xs) zero = refl
zero_last (x ∷ xs) (suc i) = zero_last xs i

zero_at : (xs : List ℕ) (p : Option ℕ) → at_place (xs ++ 0 ∷ []) p ≡ at_place xs p
zero_at xs None = refl
zero_at xs (Some i) = zero_last xs i

past_end : (xs : List ℕ) (n : ℕ) → n ≡ length xs → slice_index xs n ≡ 0
past_end xs n e = ap (slice_index xs) e ∙ at_none xs

pub sum_begun : (firms : List (List ℕ)) (sums : List ℕ) (firm other : List ℕ) → length sums ≡ length firms → list_any (same_name firm) firms ≡ false
    → at_place (sums ++ 0 ∷ []) (position (same_name other) (firms ++ firm ∷ [])) ≡ at_place sums (position (same_name other) firms)
sum_begun firms sums firm other long none = zero_at sums (position (same_name other) (firms ++ firm ∷ [])) ∙ by (same_name other firm) refl
  where
    by : (b : Bool) → same_name other firm ≡ b → at_place sums (position (same_name other) (firms ++ firm ∷ [])) ≡ at_place sums (position (same_name other) firms)
    by false differ = ap (at_place sums) (pushed_other (same_name other) firms firm differ)
    by true same =
        let absent : list_any (same_name other) firms ≡ false = ap (λ (n : List ℕ). list_any (same_name n) firms) ((same_name_is other firm).0 same) ∙ none in
        ap (at_place sums) (pushed_here (same_name other) firms firm absent same)
        ∙ past_end sums (length firms) (sym long)
        ∙ sym (ap (at_place sums) (none_there (same_name other) firms absent))

-- ---- a sum changed

pub sum_changed : (firms : List (List ℕ)) (sums : List ℕ) (firm other : List ℕ) (i value less more : ℕ) → length sums ≡ length firms → position (same_name firm) firms ≡ Some i → value ≡ get_or sums i value
    → at_place (set sums i (value - less + more)) (position (same_name other) firms) ≡ (if same_name firm other then at_place sums (position (same_name other) firms) - less + more else at_place sums (position (same_name other) firms))
sum_changed firms sums firm other i value less more long found is = by (same_name firm other) refl
  where
    within : i < length firms
    within = (position-Some (same_name firm) firms i firm found).0

    name : firm ≡ get_or firms i firm
    name = (same_name_is firm (get_or firms i firm)).0 (position-Some (same_name firm) firms i firm found).1

    elsewhere : (p : Option ℕ) → position (same_name other) firms ≡ p → (firm ≡ other → ⊥) → at_place (set sums i (value - less + more)) p ≡ at_place sums p
    elsewhere None e differ = refl
    elsewhere (Some j) e differ =
        let at = position-Some (same_name other) firms j firm e in
        get_or-set_other sums i j (value - less + more) 0 (λ same. differ (name ∙ ap (λ (k : ℕ). get_or firms k firm) (sym same) ∙ sym ((same_name_is other (get_or firms j firm)).0 at.1)))

    by : (b : Bool) → same_name firm other ≡ b
        → at_place (set sums i (value - less + more)) (position (same_name other) firms) ≡ (if b then at_place sums (position (same_name other) firms) - less + more else at_place sums (position (same_name other) firms))
    by true same =
        let name : firm ≡ other = (same_name_is firm other).0 same in
        let place : position (same_name other) firms ≡ Some i = ap (λ (n : List ℕ). position (same_name n) firms) (sym name) ∙ found in
        let old : value ≡ at_place sums (position (same_name other) firms) = is ∙ get_or_default sums i value 0 (omega (arith, within, long)) ∙ sym (ap (at_place sums) place) in
        ap (at_place (set sums i (value - less + more))) place
        ∙ get_or-set_same sums i (value - less + more) 0 (omega (arith, within, long))
        ∙ ap (λ (n : ℕ). n - less + more) old
    by false differ = elsewhere (position (same_name other) firms) refl (λ e. true≢false (sym ((same_name_is firm other).1 e) ∙ differ))

-- ---- whether a firm has a sum

pub none_yet : (p : List ℕ → Bool) (firms : List (List ℕ)) (r : Option ℕ) → r ≡ position p firms → is_some r ≡ false → list_any p firms ≡ false
none_yet p firms None at none = position_none p firms (sym at)
none_yet p firms (Some i) at none = absurd (true≢false none)

pub one_already : (p : List ℕ → Bool) (firms : List (List ℕ)) (r : Option ℕ) → r ≡ position p firms → is_some r ≡ true → list_any p firms ≡ true
one_already p firms None at some = absurd (true≢false (sym some))
one_already p firms (Some i) at some = position_any p firms i [] (sym at)

pub now_begun : (firms : List (List ℕ)) (firm : List ℕ) → list_any (same_name firm) (firms ++ firm ∷ []) ≡ true
now_begun firms firm = list_any-append (same_name firm) firms (firm ∷ []) ∙ or_right (list_any (same_name firm) firms) _ (or_left (same_name firm firm) false (name_same firm))

pub still_known : (firms : List (List ℕ)) (firm other : List ℕ) → list_any (same_name other) firms ≡ true → list_any (same_name other) (firms ++ firm ∷ []) ≡ true
still_known firms firm other known = list_any-append (same_name other) firms (firm ∷ []) ∙ or_left (list_any (same_name other) firms) _ known

-- ---- what a claim counts

-- what a claim counts for a firm
abbrev pub weight : (ClaimFact → List ℕ) → List ℕ → ClaimFact → ℕ
weight side firm c = cond (same_name firm (side c)) c.part 0

weigh_step : (b : Bool) (part rest more : ℕ) → rest ≡ more → sum (cond b (part ∷ []) []) + rest ≡ cond b part 0 + more
weigh_step true part rest more e = omega (arith, e)
weigh_step false part rest more e = omega (arith, e)

split_step : (a : Bool) (x : ClaimFact) (xs : List ClaimFact) → sum (map (λ c. c.part) (cond a (x ∷ xs) xs)) ≡ sum (cond a (x.part ∷ []) []) + sum (map (λ c. c.part) xs)
split_step true x xs = sum_by-cons (λ n. n) x.part (map (λ c. c.part) xs) ∙ ap (λ (n : ℕ). n + sum (map (λ c. c.part) xs)) (more x.part)
  where
    more : (n : ℕ) → n ≡ sum (n ∷ [])
    more n = omega arith
split_step false x xs = omega arith

pub weighed : (side : ClaimFact → List ℕ) (firm : List ℕ) (claims : List ClaimFact) → owed_at side firm claims ≡ sum_by (weight side firm) claims
weighed side firm [] = refl
weighed side firm (x ∷ xs) =
    split_step (same_name firm (side x)) x (filter (λ c. same_name firm (side c)) xs)
    ∙ weigh_step (same_name firm (side x)) x.part (owed_at side firm xs) (sum_by (weight side firm) xs) (weighed side firm xs)
    ∙ sym (sum_by-cons (weight side firm) x xs)

cond_le : (a : Bool) (n : ℕ) → cond a n 0 ≤ n
cond_le true n = omega arith
cond_le false n = omega arith

weight_le : (side : ClaimFact → List ℕ) (firm : List ℕ) (c : ClaimFact) → weight side firm c ≤ c.part
weight_le side firm c = cond_le (same_name firm (side c)) c.part

-- ---- a claim changed

-- where a part does not grow, the parts together do not
pub total_kept : (xs : List ClaimFact) (i : ℕ) (x y : ClaimFact) → i < length xs → x ≡ get_or xs i x → y.part ≤ x.part → sum_by (λ c. c.part) (set xs i y) ≤ sum_by (λ c. c.part) xs
total_kept xs i x y lt is le = omega (arith, le, ap (λ (z : ClaimFact). z.part) is, sum_by-set (λ (c : ClaimFact). c.part) xs i y x lt)

-- the sum of the firm of the claim at i
module _ (side : ClaimFact → List ℕ) (xs : List ClaimFact) (s : SumsView) (i : ℕ) (x y : ClaimFact) (are : AreSums side xs s) (lt : i < length xs) (is : x ≡ get_or xs i x) (same : side y ≡ side x) where
  here : same_name (side y) (side x) ≡ true
  here = (same_name_is (side y) (side x)).1 same

  pub firm_known : has_sum s (side y) ≡ true
  firm_known = ap (has_sum s) (same ∙ ap side is) ∙ are.known i x lt

  own : x.part ≡ weight side (side y) x
  own = sym (cond-true (same_name (side y) (side x)) x.part 0 here)

  summed : sum_of s (side y) ≡ sum_by (weight side (side y)) xs
  summed = are.sums (side y) ∙ weighed side (side y) xs

  pub enough : x.part ≤ sum_of s (side y)
  enough = omega (arith, own, ap (weight side (side y)) is, get_or-le-sum_by (weight side (side y)) xs i x lt, summed)

  replaced : (firm : List ℕ) → sum_by (weight side firm) (set xs i y) + weight side firm x ≡ sum_by (weight side firm) xs + weight side firm y
  replaced firm = ap (λ (z : ClaimFact). sum_by (weight side firm) (set xs i y) + weight side firm z) is ∙ sum_by-set (weight side firm) xs i y x lt

  own_new : weight side (side y) y ≡ y.part
  own_new = cond-true (same_name (side y) (side y)) y.part 0 (name_same (side y))

  new_is : sum_of s (side y) - x.part + y.part ≡ sum_by (weight side (side y)) (set xs i y)
  new_is = omega (arith, summed, own, own_new, replaced (side y), enough)

  pub fits : sum_by (λ c. c.part) (set xs i y) < 2 ^ 64 → sum_of s (side y) - x.part + y.part < 2 ^ 64
  fits small = omega (arith, new_is, small, sum_by-le-sum_by (weight side (side y)) (λ c. c.part) (set xs i y) (weight_le side (side y)))

  pub sums_follow : (t : SumsView) → ((other : List ℕ) → has_sum t other ≡ has_sum s other) → ((other : List ℕ) → sum_of t other ≡ (if same_name (side y) other then sum_of s other - x.part + y.part else sum_of s other))
      → AreSums side (set xs i y) t
  sums_follow t known changed = record {
    known = All-set (λ c. has_sum t (side c) ≡ true) xs i y (known (side y) ∙ firm_known) (λ k d less. known (side (get_or xs k d)) ∙ are.known k d less);
    sums = λ firm. changed firm ∙ by firm (same_name (side y) firm) refl ∙ sym (weighed side firm (set xs i y));
  }
    where
      by : (firm : List ℕ) (b : Bool) → same_name (side y) firm ≡ b → (if b then sum_of s firm - x.part + y.part else sum_of s firm) ≡ sum_by (weight side firm) (set xs i y)
      by firm true e =
          let name : side y ≡ firm = (same_name_is (side y) firm).0 e in
          subst (λ (n : List ℕ). sum_of s n - x.part + y.part ≡ sum_by (weight side n) (set xs i y)) name new_is
      by firm false e =
          let differ : same_name firm (side y) ≡ false = not_one (same_name firm (side y)) (same_name_is firm (side y)) (λ e'. true≢false (sym ((same_name_is (side y) firm).1 (sym e')) ∙ e)) in
          let no_x : weight side firm x ≡ 0 = cond-false (same_name firm (side x)) x.part 0 (ap (same_name firm) (sym same) ∙ differ) in
          let no_y : weight side firm y ≡ 0 = cond-false (same_name firm (side y)) y.part 0 differ in
          omega (arith, are.sums firm, weighed side firm xs, replaced firm, no_x, no_y)

-- ---- a claim filed

pub sums_filed : (side : ClaimFact → List ℕ) (xs : List ClaimFact) (s t : SumsView) (y : ClaimFact) → AreSums side xs s → y.part ≡ 0 → has_sum t (side y) ≡ true → ((other : List ℕ) → has_sum s other ≡ true → has_sum t other ≡ true)
    → ((other : List ℕ) → sum_of t other ≡ sum_of s other) → AreSums side (xs ++ y ∷ []) t
sums_filed side xs s t y are none begun known sums = record {
  known = All-push (λ c. has_sum t (side c) ≡ true) xs y (λ k d lt. known (side (get_or xs k d)) (are.known k d lt)) begun;
  sums = λ firm. sums firm ∙ are.sums firm ∙ weighed side firm xs ∙ more firm ∙ sym (weighed side firm (xs ++ y ∷ []));
}
  where
    nothing : (firm : List ℕ) → sum_by (weight side firm) (y ∷ []) ≡ 0
    nothing firm = omega (arith, sum_by-cons (weight side firm) y [], cond_le (same_name firm (side y)) y.part, none)

    more : (firm : List ℕ) → sum_by (weight side firm) xs ≡ sum_by (weight side firm) (xs ++ y ∷ [])
    more firm = omega (arith, sum_by-append (weight side firm) xs (y ∷ []), nothing firm)

-- ---- what was read

pub read_at : (facts : List ClaimFact) (i : ℕ) (x claim : ClaimFact) → i < length facts → x ≡ get_or facts i x → (get_or facts i claim) ≡ x
read_at facts i x claim lt is = get_or_default facts i claim x lt ∙ sym is
