-- Prices whose gaps are narrowed to no less than the largest weight keep the sign of each gain, up to 0, and of each price.
use Rattle.std.specs.Prelude.{ℤ, pos, ◌+ℤ◌, ◌-ℤ◌, ◌<ℤ◌, ◌≤ℤ◌, slice_index}
use Rattle.std.proofs.Common.{◌≡◌, ℕ, ◌≤◌, List, length, ◌∙◌, inl, inr, ◌⊎◌, arith}
use Rattle.std.proofs.lemmas.Int.{ints}
use Rattle.setoff_model.specs.declared.limits.TheConstants.{MOST_WEIGHT}
use Rattle.setoff_model.specs.Setoff.{Obligations, IsLawful, price_at}
use Rattle.setoff_model.specs.Weighted.{AreWeights, WeightedSlack, weighted_total_of, weighted_bound_of}
use Rattle.setoff_model.specs.Squeezing.{IsSqueezedTo, NarrowingKeeps}
use Rattle.setoff_model.proofs.Circulation.{price_past}
use Rattle.setoff_model.proofs.Squeezed.{trichotomy}
use Rattle.setoff_model.proofs.Weighed.{weighted_tight, weighted_slack}

module _ (widest : ℕ) (p q : List ℤ) (to : IsSqueezedTo widest p q) where
  -- two prices, of which the first is no lower: they differ as before, or by `widest` at least before and after
  by_gap : (f g : ℕ) → price_at p f ≤ℤ price_at p g →
      ((price_at q g -ℤ price_at q f) ≡ (price_at p g -ℤ price_at p f)) ⊎ (((price_at p f +ℤ pos widest) <ℤ price_at p g) × ((price_at q f +ℤ pos widest) ≤ℤ price_at q g))
  by_gap f g le =
      elim (trichotomy (price_at p f +ℤ pos widest) (price_at p g)) as (λ _. ((price_at q g -ℤ price_at q f) ≡ (price_at p g -ℤ price_at p f)) ⊎ (((price_at p f +ℤ pos widest) <ℤ price_at p g) × ((price_at q f +ℤ pos widest) ≤ℤ price_at q g))) [
        | inl far ↦ inr (far, to.wide f g far)
        | inr rest ↦ inl (to.close f g le (elim rest as (λ _. price_at p g ≤ℤ (price_at p f +ℤ pos widest)) [ inl e ↦ omega (arith, ints, e) | inr less ↦ omega (arith, ints, less) ]))
      ]

  ordered : (f g : ℕ) → (price_at p f ≤ℤ price_at p g) ⊎ (price_at p g ≤ℤ price_at p f)
  ordered f g = elim (trichotomy (price_at p f) (price_at p g)) as (λ _. (price_at p f ≤ℤ price_at p g) ⊎ (price_at p g ≤ℤ price_at p f)) [
    | inl less ↦ inl (omega (arith, ints, less))
    | inr rest ↦ inr (elim rest as (λ _. price_at p g ≤ℤ price_at p f) [ inl e ↦ omega (arith, ints, e) | inr more ↦ omega (arith, ints, more) ])
  ]

  -- a gain of 0 stays, one above 0 was above 0, one below 0 was below 0
  pub gain_above_back : (r f g : ℕ) → r ≤ widest → pos 0 <ℤ ((pos r +ℤ price_at q f) -ℤ price_at q g) → pos 0 <ℤ ((pos r +ℤ price_at p f) -ℤ price_at p g)
  gain_above_back r f g le h =
      elim (ordered f g) as (λ _. pos 0 <ℤ ((pos r +ℤ price_at p f) -ℤ price_at p g)) [
        | inl low ↦ elim (by_gap f g low) as (λ _. pos 0 <ℤ ((pos r +ℤ price_at p f) -ℤ price_at p g)) [
          | inl same ↦ omega (arith, ints, same, h)
          | inr far ↦ let after = far.1 in absurd (omega (arith, ints, after, h, le))
        ]
        | inr high ↦ elim (by_gap g f high) as (λ _. pos 0 <ℤ ((pos r +ℤ price_at p f) -ℤ price_at p g)) [
          | inl same ↦ omega (arith, ints, same, h)
          | inr far ↦ let before = far.0 in omega (arith, ints, before, le)
        ]
      ]

  pub gain_below_back : (r f g : ℕ) → r ≤ widest → ((pos r +ℤ price_at q f) -ℤ price_at q g) <ℤ pos 0 → ((pos r +ℤ price_at p f) -ℤ price_at p g) <ℤ pos 0
  gain_below_back r f g le h =
      elim (ordered f g) as (λ _. ((pos r +ℤ price_at p f) -ℤ price_at p g) <ℤ pos 0) [
        | inl low ↦ elim (by_gap f g low) as (λ _. ((pos r +ℤ price_at p f) -ℤ price_at p g) <ℤ pos 0) [
          | inl same ↦ omega (arith, ints, same, h)
          | inr far ↦ let before = far.0 in omega (arith, ints, before, le)
        ]
        | inr high ↦ elim (by_gap g f high) as (λ _. ((pos r +ℤ price_at p f) -ℤ price_at p g) <ℤ pos 0) [
          | inl same ↦ omega (arith, ints, same, h)
          | inr far ↦ let after = far.1 in absurd (omega (arith, ints, after, h, le))
        ]
      ]

  pub gain_even : (r f g : ℕ) → r ≤ widest → ((pos r +ℤ price_at p f) -ℤ price_at p g) ≡ pos 0 → ((pos r +ℤ price_at q f) -ℤ price_at q g) ≡ pos 0
  gain_even r f g le h =
      let e = to.close f g (omega (arith, ints, h)) (omega (arith, ints, h, le)) in omega (arith, ints, h, e)

  -- a price past the last is 0 in both, so signs are kept too
  ground_p : price_at p (length p) ≡ pos 0
  ground_p = price_past p (length p) (omega arith)

  ground_q : price_at q (length p) ≡ pos 0
  ground_q = price_past q (length p) (omega (arith, to.one_each))

  pub above_back : (f : ℕ) → pos 0 <ℤ price_at q f → pos 0 <ℤ price_at p f
  above_back f h =
      let was = gain_above_back 0 f (length p) (omega arith) (omega (arith, ints, ground_q, h)) in
      omega (arith, ints, ground_p, was)

  pub below_back : (f : ℕ) → price_at q f <ℤ pos 0 → price_at p f <ℤ pos 0
  below_back f h =
      let was = gain_below_back 0 f (length p) (omega arith) (omega (arith, ints, ground_q, h)) in
      omega (arith, ints, ground_p, was)

slack_kept : (o : Obligations) (weights d : List ℕ) (p q : List ℤ) → AreWeights o weights → IsSqueezedTo MOST_WEIGHT p q → WeightedSlack o weights d p → WeightedSlack o weights d q
slack_kept o weights d p q are to facts = record {
  full = λ c in' h. facts.full c in' (gain_above_back MOST_WEIGHT p q to (slice_index weights c) (slice_index o.debtors c) (slice_index o.creditors c) (are.limit c in') h);
  empty = λ c in' h. facts.empty c in' (gain_below_back MOST_WEIGHT p q to (slice_index weights c) (slice_index o.debtors c) (slice_index o.creditors c) (are.limit c in') h);
  at_room = λ f in' h. facts.at_room f in' (above_back MOST_WEIGHT p q to f h);
  at_spend = λ f in' h. facts.at_spend f in' (below_back MOST_WEIGHT p q to f h);
}

tight_kept : (o : Obligations) (weights d : List ℕ) (p q : List ℤ) → AreWeights o weights → IsSqueezedTo MOST_WEIGHT p q → IsLawful o d → length p ≡ length o.spends →
    weighted_total_of weights d ≡ weighted_bound_of o weights p → weighted_total_of weights d ≡ weighted_bound_of o weights q
tight_kept o weights d p q are to lawful each tight =
    weighted_tight o weights d q lawful.one_each (to.one_each ∙ each) (slack_kept o weights d p q are to (weighted_slack o weights d p lawful each tight))

pub narrowing_keeps : NarrowingKeeps
narrowing_keeps = record {
  tight = tight_kept;
  proves = λ o weights d p q are to near lawful each tight. record {
    lawful = lawful;
    price_each = to.one_each ∙ each;
    in_range = λ f in'. let h = near f (omega (arith, in', each, to.one_each)) in omega (arith, h, each);
    tight = tight_kept o weights d p q are to lawful each tight;
  };
}
