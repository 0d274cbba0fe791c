-- The draws of one claim.
use Rattle.std.proofs.Common.{◌≡◌, ◌∙◌, ℕ, ◌+◌, ◌-◌, ◌*◌, ◌%◌, ◌<◌, List, refl, ap, ap₂, subst, arith}
use Rattle.setoff_model.specs.declared.limits.TheConstants.{MOST_AMOUNT}
use Rattle.setoff_model.specs.declared.name.Key.{Key}
use Rattle.std.proofs.lemmas.Bool.{le-leb}
use Rattle.std.specs.Prelude.{true}
use Rattle.claim_history.specs.Acts.{is_claim_amount}
use Rattle.trial_round.specs.Draws.{draw}
use Rattle.trial_round.proofs.Drawn.{draw_short}
use Rattle.trial_round.specs.Input.{claim_cents, claim_key, creditor_place, debtor_place, firm_name, invoice_name, other_than}

-- a draw of a generator that has made so many
drawn : (seed seed' made place x : ℕ) → seed' ≡ seed → made + 1 ≡ place → x ≡ draw seed' (made + 1) → x ≡ draw seed place
drawn seed seed' made place x same is got = got ∙ ap₂ draw same is

module _ (firms seed number made one two three seed2 made2 seed3 made3 : ℕ)
    (at : made ≡ 3 * (number - 1)) (first : one ≡ draw seed (made + 1)) (same2 : seed2 ≡ seed) (more2 : made2 ≡ made + 1) (second : two ≡ draw seed2 (made2 + 1))
    (same3 : seed3 ≡ seed2) (more3 : made3 ≡ made2 + 1) (third : three ≡ draw seed3 (made3 + 1)) where
  pub debtor_is : one % firms ≡ debtor_place firms seed number
  unfolding debtor_place
  debtor_is = ap (λ (x : ℕ). x % firms) (drawn seed seed made (3 * (number - 1) + 1) one refl (omega arith) first)

  pub creditor_is : other_than (one % firms) (two % (firms - 1)) ≡ creditor_place firms seed number
  unfolding creditor_place
  creditor_is = ap₂ other_than debtor_is (ap (λ (x : ℕ). x % (firms - 1)) (drawn seed seed2 made2 (3 * (number - 1) + 2) two same2 (omega arith) second))

  pub cents_are : three + 1 ≡ claim_cents seed number
  unfolding claim_cents
  cents_are = ap (λ (x : ℕ). x + 1) (drawn seed seed3 made3 (3 * (number - 1) + 3) three (same3 ∙ same2) (omega arith) third)

  pub key_is : (creditor invoice : List ℕ) (place : ℕ) → place ≡ other_than (one % firms) (two % (firms - 1)) → creditor ≡ firm_name (place + 1) → invoice ≡ invoice_name number
      → let key : Key = record { creditor = creditor; invoice = invoice } in key ≡ claim_key firms seed number
  key_is creditor invoice place is named by =
      let make : List ℕ → List ℕ → Key = λ (a b : List ℕ). record { creditor = a; invoice = b } in
      ap₂ make (named ∙ ap (λ (n : ℕ). firm_name (n + 1)) (is ∙ creditor_is)) by

-- the cents of a claim are those of an amount
pub cents_valid : (seed number cents : ℕ) → cents ≡ claim_cents seed number → is_claim_amount cents ≡ true
unfolding claim_cents
cents_valid seed number cents is =
    let short : draw seed (3 * (number - 1) + 3) < 65536 = subst (λ (n : ℕ). draw seed n < 65536) (omega arith) (draw_short seed (3 * (number - 1) + 2)) in
    rw (le-leb 1 cents (omega (arith, is)), le-leb cents MOST_AMOUNT (omega (arith, is, short))) refl
