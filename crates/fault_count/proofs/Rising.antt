-- What rose between two counts of faults.
use Rattle.std.specs.Prelude.{nat_lt}
use Rattle.std.proofs.Common.{◌≡◌, ⊎_elim, inl, inr, ℕ, ◌-◌, ◌^◌, ◌≤◌, Bool, true, false, refl, arith}
use Rattle.std.proofs.lemmas.Bool.{ltb-true, ltb-false}
use Rattle.fault_count.specs.Counts.{HasRisen}

-- it rose between those around them
pub risen_within : (low before after high : ℕ) → low ≤ before → after ≤ high → HasRisen before after → HasRisen low high
risen_within low before after high first last rose = ⊎_elim
    (λ less. inl (omega (arith, first, last, less)))
    (λ stands. at_last (nat_lt low high) refl stands)
    rose where
      at_last : (b : Bool) → nat_lt low high ≡ b → (before ≡ 2 ^ 64 - 1) × (after ≡ 2 ^ 64 - 1) → HasRisen low high
      at_last true is stands = inl (ltb-true low high is)
      at_last false is stands = inr (let no = ltb-false low high is in (omega (arith, first, last, no, stands.0, stands.1), omega (arith, first, last, no, stands.0, stands.1)))
