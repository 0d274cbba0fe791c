-- The end of a walk is a chain, and the rest of it is a walk.
use Rattle.std.specs.Prelude.{slice_index, ◌==◌}
use Rattle.std.specs.List.{list_any}
use Rattle.std.proofs.Common.{◌≡◌, ◌≢◌, ℕ, suc, ◌+◌, ◌-◌, ◌<◌, ◌≤◌, false, List, length, take, drop, sym, ◌∙◌, ap, subst, inl, inr, arith}
use Rattle.std.proofs.lemmas.List.{get_or-take, get_or-drop, length-take-le, length-drop}
use Rattle.setoff_model.specs.Setoff.{Obligations}
use Rattle.chain_explain.specs.Chains.{IsTrail, IsOpenChain, debtor_at, creditor_at, first_debtor, last_creditor}
use Rattle.chain_explain.specs.Walks.{AreReached, IsPath, stand}
use Rattle.chain_explain.proofs.Lowered.{has_cases}
use Rattle.chain_explain.proofs.Walking.{once}

-- the claims from place a to place b
pub length_part : (path : List ℕ) (a b : ℕ) → a ≤ b → b ≤ length path → length (take (b - a) (drop a path)) ≡ b - a
length_part path a b le in' = length-take-le (b - a) (drop a path) (omega (arith, length-drop a path))

part_at : (path : List ℕ) (a b i : ℕ) → i < b - a → slice_index (take (b - a) (drop a path)) i ≡ slice_index path (a + i)
part_at path a b i lt = get_or-take (b - a) (drop a path) i 0 lt ∙ get_or-drop a path i 0

pub whole_part : (path : List ℕ) (n : ℕ) → take n path ≡ take (n - 0) (drop 0 path)
whole_part path n = let e : n ≡ n - 0 = omega arith in ap (λ k. take k path) e

module _ (o : Obligations) (rests path marks : List ℕ) (from at n : ℕ) (is : IsPath o rests path marks from at n) (a : ℕ) (in' : a < n) where
  long : length (take (n - a) (drop a path)) ≡ n - a
  long = length_part path a n (omega arith) (omega (arith, is.fits, is.room))

  pub some_part : 0 < length (take (n - a) (drop a path))
  some_part = omega (arith, long)

  debtor_of_part : (i : ℕ) → i < n - a → debtor_at o (take (n - a) (drop a path)) i ≡ debtor_at o path (a + i)
  debtor_of_part i lt = ap (λ k. slice_index o.debtors k) (part_at path a n i lt)

  creditor_of_part : (i : ℕ) → i < n - a → creditor_at o (take (n - a) (drop a path)) i ≡ creditor_at o path (a + i)
  creditor_of_part i lt = ap (λ k. slice_index o.creditors k) (part_at path a n i lt)

  pub trail_part : IsTrail o (take (n - a) (drop a path))
  trail_part = record {
    places = λ i lt. let i' : i < n - a = omega (arith, long, lt) in subst (λ (k : ℕ). k < length o.amounts) (sym (part_at path a n i i')) (is.claims (a + i) (omega arith));
    linked = λ i lt.
        let i' : i < n - a = omega (arith, long, lt) in
        let next : suc i < n - a = omega (arith, long, lt) in
        let e : suc (a + i) ≡ a + suc i = omega arith in
        creditor_of_part i i' ∙ sym (is.linked (suc (a + i)) (omega arith)) ∙ ap (debtor_at o path) e ∙ sym (debtor_of_part (suc i) next);
    once = λ i j lt lt' same.
        let j' : j < n - a = omega (arith, long, lt') in
        let i' : i < n - a = omega arith in
        once o rests path marks from at n is (a + i) (a + j) (omega arith) (omega arith) (sym (debtor_of_part i i') ∙ same ∙ debtor_of_part j j');
  }

  pub first_of_part : first_debtor o (take (n - a) (drop a path)) ≡ debtor_at o path a
  first_of_part = let e : a + 0 ≡ a = omega arith in debtor_of_part 0 (omega arith) ∙ ap (debtor_at o path) e

  pub last_of_part : last_creditor o (take (n - a) (drop a path)) ≡ at
  last_of_part =
      let i = length (take (n - a) (drop a path)) - 1 in
      let i' : i < n - a = omega (arith, long) in
      let e : suc (a + i) ≡ n = omega (arith, long) in
      let here : creditor_at o path (a + i) ≡ stand o path from n = ap (stand o path from) e in
      creditor_of_part i i' ∙ here ∙ sym is.stands

  pub held_part : (i : ℕ) → i < length (take (n - a) (drop a path)) → 0 < slice_index rests (slice_index (take (n - a) (drop a path)) i)
  held_part i lt = let i' : i < n - a = omega (arith, long, lt) in subst (λ (k : ℕ). 0 < slice_index rests k) (sym (part_at path a n i i')) (is.held (a + i) (omega arith))

  pub open_part : ((i : ℕ) → i < n → debtor_at o path i ≢ at) → IsOpenChain o (take (n - a) (drop a path))
  open_part off i lt same = let i' : i < n - a = omega (arith, long, lt) in off (a + i) (omega arith) (sym (debtor_of_part i i') ∙ same ∙ last_of_part)

  -- an earlier claim of the walk is not of it
  pub not_of_part : (i : ℕ) → i < a → list_any (λ k. k == slice_index path i) (take (n - a) (drop a path)) ≡ false
  not_of_part i lt = elim (has_cases (take (n - a) (drop a path)) (slice_index path i)) as (λ _. list_any (λ k. k == slice_index path i) (take (n - a) (drop a path)) ≡ false) [
    | inl h ↦
        let j' : h.1.0 < n - a = let x = h.1.1 in omega (arith, long, x) in
        let same : slice_index path (a + h.1.0) ≡ slice_index path i = sym (part_at path a n h.1.0 j') ∙ h.1.2 in
        absurd (once o rests path marks from at n is i (a + h.1.0) (omega arith) (omega arith) (ap (λ k. slice_index o.debtors k) (sym same)))
    | inr h ↦ h.0
  ]

  -- what is before it is a walk to its first debtor
  pub cut_back : (new : List ℕ) → debtor_at o path a ≡ at → ((i : ℕ) → i < a → 0 < slice_index new (slice_index path i)) → IsPath o new path marks from at a
  cut_back new back held = record {
    room = is.room;
    mark_each = is.mark_each;
    fits = omega (arith, is.fits);
    here = is.here;
    stands = sym back ∙ is.linked a in';
    claims = λ i lt. is.claims i (omega arith);
    held = held;
    linked = λ i lt. is.linked i (omega arith);
    marked = λ i lt. is.marked i (omega arith);
  }

-- a walk that has begun comes from a party
pub from_party : (o : Obligations) (rests path marks : List ℕ) (from at n : ℕ) → IsPath o rests path marks from at n →
    ((c : ℕ) → c < length o.amounts → slice_index o.debtors c < length o.spends) → 0 < n → from < length o.spends
from_party o rests path marks from at n is among some =
    let first : debtor_at o path 0 ≡ from = is.linked 0 some in
    omega (arith, first, among (slice_index path 0) (is.claims 0 some))

-- claims without a rest need not be reached
pub still_reached : (o : Obligations) (rests new current later : List ℕ) → AreReached o rests current later →
    ((c : ℕ) → c < length o.amounts → slice_index new c ≤ slice_index rests c) → AreReached o new current later
still_reached o rests new current later is le = record {
  current_each = is.current_each;
  later_each = is.later_each;
  owed = is.owed;
  reaches = λ k lt some. is.reaches k lt (let x = le k lt in omega (arith, x, some));
  rises = is.rises;
  later_owed = is.later_owed;
  skips = is.skips;
}
