-- Where each weight is 1, weighted claims are claims without weights.
use Rattle.std.specs.Prelude.{ℤ, ◌↔◌}
use Rattle.std.proofs.Common.{◌≡◌, ℕ, ◌<◌, List, length, sym, ◌∙◌, arith}
use Rattle.setoff_model.specs.Setoff.{Obligations, IsGreatest, InRange, Proves, total_of, bound_of}
use Rattle.setoff_model.specs.Weighted.{IsWeightedGreatest, ProvesWeighted, AreOnes, WeightsOfOne, weighted_total_of, weighted_bound_of}
use Rattle.setoff_model.proofs.Weighed.{total_of_ones, bound_of_ones}

module _ (o : Obligations) (weights : List ℕ) (are : AreOnes o weights) where
  total_one : (d : List ℕ) → length d ≡ length o.amounts → weighted_total_of weights d ≡ total_of d
  total_one d each = total_of_ones weights d (λ c lt. are.one c (omega (arith, each, lt)))

  bound_one : (p : List ℤ) → weighted_bound_of o weights p ≡ bound_of o p
  bound_one p = bound_of_ones o weights p are.one

  greatest_one : (d : List ℕ) → IsWeightedGreatest o weights d ↔ IsGreatest o d
  greatest_one d = (
    λ g. record { lawful = g.lawful; most = λ e other. omega (arith, g.most e other, total_one e other.one_each, total_one d g.lawful.one_each) },
    λ g. record { lawful = g.lawful; most = λ e other. omega (arith, g.most e other, total_one e other.one_each, total_one d g.lawful.one_each) },
  )

  proofs_one : (d : List ℕ) (p : List ℤ) → Proves o d p ↔ (ProvesWeighted o weights d p × ((f : ℕ) → f < length o.spends → InRange o p f))
  proofs_one d p = (
    λ h. (
      record {
        lawful = h.lawful;
        price_each = h.price_each;
        in_range = λ f in'. omega (arith, h.in_range f in');
        tight = total_one d h.lawful.one_each ∙ h.tight ∙ sym (bound_one p);
      },
      h.in_range,
    ),
    λ (h, range). record {
      lawful = h.lawful;
      price_each = h.price_each;
      in_range = range;
      tight = sym (total_one d h.lawful.one_each) ∙ h.tight ∙ bound_one p;
    },
  )

pub weights_of_one : WeightsOfOne
weights_of_one = record {
  total = λ o weights d are each. total_one o weights are d each;
  bound = λ o weights p are. bound_one o weights are p;
  greatest = λ o weights d are. greatest_one o weights are d;
  proofs = λ o weights d p are. proofs_one o weights are d p;
}
