-- Each act of a trial can be asked for.
use Rattle.std.proofs.Common.{◌≡◌, ℕ, zero, suc, ◌+◌, ◌-◌, ◌*◌, ◌%◌, ◌<◌, ◌≤◌, Bool, true, false, [], ◌∷◌, ◌++◌, map, refl, ap, ap₂, arith, All}
use Rattle.std.specs.Prelude.{◌&&◌, nat_le, None, if◌then◌else◌}
use Rattle.std.proofs.lemmas.List.Elements.{All-append, All-nil, All-cons, All-map}
use Rattle.setoff_model.specs.declared.limits.TheConstants.{MOST_CLAIMS, MOST_FIRMS}
use Rattle.setoff_model.specs.Names.{is_name}
use Rattle.claim_history.specs.declared.act.Act.{Act}
use Rattle.claim_history.specs.declared.act.Act.TheVariants as act
use Rattle.claim_history.specs.Acts.{is_request}
use Rattle.request_text.specs.Grammar.{CanBeAsked}
use Rattle.trial_round.specs.declared.days.TheConstants.{DUE_DAY}
use Rattle.trial_round.specs.Draws.{draw}
use Rattle.trial_round.specs.Input.{acts_before_close, by_lane_one, claim_acts, claim_cents, claim_key, close_act, creditor_place, debtor_place, filed_and_confirmed, firm_acts, firm_name, invoice_name, trial_acts}
use Rattle.trial_round.specs.Trial.{IsTrialSize}
use Rattle.trial_round.proofs.Named.{firm_is_named, invoice_is_named}
use Rattle.trial_round.proofs.Claims.{cents_valid}

abbrev pub IsAskable : Act → Type 0
IsAskable a = is_request a ≡ true

firms_asked : (firms : ℕ) → firms ≤ MOST_FIRMS → All IsAskable (firm_acts firms)
unfolding firm_acts
firms_asked zero few = All-nil IsAskable
firms_asked (suc number) few =
    All-append IsAskable (firm_acts number) (act.Firm (firm_name (suc number)) ∷ []) (firms_asked number (omega (arith, few)))
    (All-cons IsAskable (act.Firm (firm_name (suc number))) [] (firm_is_named (suc number) (omega (arith, few))) (All-nil IsAskable))

debtor_below : (firms seed claim : ℕ) → 2 ≤ firms → debtor_place firms seed claim < firms
unfolding debtor_place
debtor_below firms seed claim some = omega (arith, some)

other_below : (b : Bool) (firms place : ℕ) → place < firms - 1 → (if b then place + 1 else place) < firms
other_below true firms place lt = omega (arith, lt)
other_below false firms place lt = omega (arith, lt)

creditor_below : (firms seed claim : ℕ) → 2 ≤ firms → creditor_place firms seed claim < firms
unfolding creditor_place
creditor_below firms seed claim some =
    let place = draw seed (3 * (claim - 1) + 2) % (firms - 1) in
    other_below (nat_le (debtor_place firms seed claim) place) firms place (omega (arith, some))

claim_asked : (firms seed claim : ℕ) → 2 ≤ firms → firms ≤ MOST_FIRMS → claim ≤ MOST_CLAIMS → All IsAskable (filed_and_confirmed firms seed claim)
unfolding filed_and_confirmed
claim_asked firms seed claim some few small =
    let creditor = firm_is_named (creditor_place firms seed claim + 1) (omega (arith, creditor_below firms seed claim some, few)) in
    let invoice = invoice_is_named claim (omega (arith, small)) in
    let debtor = firm_is_named (debtor_place firms seed claim + 1) (omega (arith, debtor_below firms seed claim some, few)) in
    let named : (is_name (firm_name (creditor_place firms seed claim + 1)) && is_name (invoice_name claim) && is_name (firm_name (debtor_place firms seed claim + 1))) ≡ true =
    ap₂ (λ (a b : Bool). a && b) (ap₂ (λ (a b : Bool). a && b) creditor invoice) debtor in
    let filing = act.File (claim_key firms seed claim) (firm_name (debtor_place firms seed claim + 1)) (claim_cents seed claim) DUE_DAY in
    let confirmation = act.Confirm (claim_key firms seed claim) (firm_name (debtor_place firms seed claim + 1)) None in
    All-cons IsAskable filing (confirmation ∷ []) (ap₂ (λ (a b : Bool). a && b && true) named (cents_valid seed claim (claim_cents seed claim) refl))
    (All-cons IsAskable confirmation [] (ap (λ (b : Bool). b && true) named) (All-nil IsAskable))

claims_asked : (firms seed claims : ℕ) → 2 ≤ firms → firms ≤ MOST_FIRMS → claims ≤ MOST_CLAIMS → All IsAskable (claim_acts firms seed claims)
unfolding claim_acts
claims_asked firms seed zero some few small = All-nil IsAskable
claims_asked firms seed (suc claim) some few small =
    All-append IsAskable (claim_acts firms seed claim) (filed_and_confirmed firms seed (suc claim)) (claims_asked firms seed claim some few (omega (arith, small))) (claim_asked firms seed (suc claim) some few small)

pub acts_asked : (firms claims seed : ℕ) → IsTrialSize firms claims → All IsAskable (trial_acts firms claims seed)
unfolding trial_acts acts_before_close
acts_asked firms claims seed size =
    All-append IsAskable (firm_acts firms ++ claim_acts firms seed claims) (close_act ∷ [])
    (All-append IsAskable (firm_acts firms) (claim_acts firms seed claims) (firms_asked firms size.few_firms) (claims_asked firms seed claims size.some_firms size.few_firms size.few_claims))
    (All-cons IsAskable close_act [] refl (All-nil IsAskable))

pub all_asked : (firms claims seed : ℕ) → IsTrialSize firms claims → All CanBeAsked (map by_lane_one (trial_acts firms claims seed))
all_asked firms claims seed size =
    All-map CanBeAsked by_lane_one (trial_acts firms claims seed) (λ k d lt. record { by = (omega arith, omega arith); named = refl; valid = acts_asked firms claims seed size k d lt })
