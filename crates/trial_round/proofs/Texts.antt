-- The lines of acts.
use Rattle.std.specs.Prelude.{None}
use Rattle.std.proofs.Common.{◌≡◌, ◌∙◌, ℕ, suc, ◌+◌, List, [], ◌∷◌, ◌++◌, map, refl, sym, ap, ap₂, add-one, append_assoc}
use Rattle.std.proofs.lemmas.List.{append-nil, map-append}
use Rattle.std.proofs.lemmas.List.Concat.{flat_map-append}
use Rattle.claim_history.specs.declared.act.Act.{Act}
use Rattle.claim_history.specs.declared.act.Act.TheVariants as act
use Rattle.claim_history.specs.Pools.{main_pool}
use Rattle.request_text.specs.Grammar.{Asked, batch_text, request_line}
use Rattle.setoff_model.specs.declared.name.Key.{Key}
use Rattle.trial_round.specs.declared.days.TheConstants.{DUE_DAY}
use Rattle.trial_round.specs.Input.{acts_before_close, by_lane_one, claim_acts, claim_cents, claim_key, close_act, debtor_place, filed_and_confirmed, firm_acts, firm_name, text_of_acts, trial_acts, trial_input}

pub text_none : text_of_acts [] ≡ []
unfolding text_of_acts
text_none = refl

pub text_append : (a b : List Act) → text_of_acts (a ++ b) ≡ text_of_acts a ++ text_of_acts b
unfolding text_of_acts
text_append a b =
    ap batch_text (map-append by_lane_one a b) ∙ flat_map-append (λ (asked : Asked). request_line asked.lane asked.pool asked.act) (map by_lane_one a) (map by_lane_one b)

pub text_one : (a : Act) → text_of_acts (a ∷ []) ≡ request_line 1 main_pool a
unfolding text_of_acts
text_one a = append-nil (request_line 1 main_pool a)

-- one line more
pub text_more : (old text : List ℕ) (acts : List Act) (a : Act) → text ≡ old ++ text_of_acts acts → text ++ request_line 1 main_pool a ≡ old ++ text_of_acts (acts ++ a ∷ [])
text_more old text acts a is =
    ap (λ (t : List ℕ). t ++ request_line 1 main_pool a) is
    ∙ append_assoc old (text_of_acts acts) (request_line 1 main_pool a)
    ∙ ap (λ (t : List ℕ). old ++ t) (sym (text_append acts (a ∷ []) ∙ ap (λ (t : List ℕ). text_of_acts acts ++ t) (text_one a)))

-- ---- the acts one after another

pub firms_none : (old : List ℕ) → old ≡ old ++ text_of_acts (firm_acts 0)
unfolding firm_acts
firms_none old = sym (ap (λ (t : List ℕ). old ++ t) text_none ∙ append-nil old)

pub firms_more : (old text : List ℕ) (firms : ℕ) → text ≡ old ++ text_of_acts (firm_acts firms) → text ++ request_line 1 main_pool (act.Firm (firm_name (firms + 1))) ≡ old ++ text_of_acts (firm_acts (firms + 1))
unfolding firm_acts
firms_more old text firms is = rw (add-one) (text_more old text (firm_acts firms) (act.Firm (firm_name (suc firms))) is)

pub claims_none : (old : List ℕ) (firms seed : ℕ) → old ≡ old ++ text_of_acts (claim_acts firms seed 0)
unfolding claim_acts
claims_none old firms seed = sym (ap (λ (t : List ℕ). old ++ t) text_none ∙ append-nil old)

pub claims_more : (old text : List ℕ) (firms seed claims : ℕ) → text ≡ old ++ text_of_acts (claim_acts firms seed claims)
    → text ++ text_of_acts (filed_and_confirmed firms seed (claims + 1)) ≡ old ++ text_of_acts (claim_acts firms seed (claims + 1))
unfolding claim_acts
claims_more old text firms seed claims is =
    ap (λ (t : List ℕ). t ++ text_of_acts (filed_and_confirmed firms seed (claims + 1))) is
    ∙ append_assoc old (text_of_acts (claim_acts firms seed claims)) (text_of_acts (filed_and_confirmed firms seed (claims + 1)))
    ∙ ap (λ (t : List ℕ). old ++ t) (sym (ap (λ (n : ℕ). text_of_acts (claim_acts firms seed n)) (add-one claims)
    ∙ text_append (claim_acts firms seed claims) (filed_and_confirmed firms seed (suc claims))
    ∙ ap (λ (n : ℕ). text_of_acts (claim_acts firms seed claims) ++ text_of_acts (filed_and_confirmed firms seed n)) (sym (add-one claims))))

-- ---- a claim

pub claim_text : (old text : List ℕ) (firms seed number cents : ℕ) (key : Key) (debtor : List ℕ)
    → key ≡ claim_key firms seed number → debtor ≡ firm_name (debtor_place firms seed number + 1) → cents ≡ claim_cents seed number
    → text ≡ old ++ request_line 1 main_pool (act.File key debtor cents DUE_DAY) ++ request_line 1 main_pool (act.Confirm key debtor None)
    → text ≡ old ++ text_of_acts (filed_and_confirmed firms seed number)
unfolding filed_and_confirmed
claim_text old text firms seed number cents key debtor is_key is_debtor is_cents is =
    let filing = act.File key debtor cents DUE_DAY in
    let confirmation = act.Confirm key debtor None in
    is
    ∙ append_assoc old (request_line 1 main_pool filing) (request_line 1 main_pool confirmation)
    ∙ ap (λ (t : List ℕ). old ++ t) (sym (two_lines filing confirmation))
    ∙ ap (λ (k : Key). old ++ text_of_acts (act.File k debtor cents DUE_DAY ∷ act.Confirm k debtor None ∷ [])) is_key
    ∙ ap (λ (d : List ℕ). old ++ text_of_acts (act.File (claim_key firms seed number) d cents DUE_DAY ∷ act.Confirm (claim_key firms seed number) d None ∷ [])) is_debtor
    ∙ ap (λ (n : ℕ). old ++ text_of_acts (act.File (claim_key firms seed number) (firm_name (debtor_place firms seed number + 1)) n DUE_DAY ∷ act.Confirm (claim_key firms seed number) (firm_name (debtor_place firms seed number + 1)) None ∷ [])) is_cents where
      two_lines : (a b : Act) → text_of_acts (a ∷ b ∷ []) ≡ request_line 1 main_pool a ++ request_line 1 main_pool b
      two_lines a b = text_append (a ∷ []) (b ∷ []) ∙ ap₂ (λ (s t : List ℕ). s ++ t) (text_one a) (text_one b)

-- ---- the whole

pub input_text : (firms claims seed : ℕ) (none firms_text claims_text text : List ℕ) → none ≡ [] → firms_text ≡ none ++ text_of_acts (firm_acts firms)
    → claims_text ≡ firms_text ++ text_of_acts (claim_acts firms seed claims) → text ≡ claims_text ++ request_line 1 main_pool close_act → text ≡ trial_input firms claims seed
unfolding trial_acts acts_before_close
input_text firms claims seed none firms_text claims_text text empty first second third =
    third
    ∙ ap (λ (t : List ℕ). t ++ request_line 1 main_pool close_act)
    (second ∙ ap (λ (t : List ℕ). t ++ text_of_acts (claim_acts firms seed claims)) (first ∙ ap (λ (t : List ℕ). t ++ text_of_acts (firm_acts firms)) empty)
    ∙ sym (text_append (firm_acts firms) (claim_acts firms seed claims)))
    ∙ ap (λ (t : List ℕ). text_of_acts (firm_acts firms ++ claim_acts firms seed claims) ++ t) (sym (text_one close_act))
    ∙ sym (text_append (firm_acts firms ++ claim_acts firms seed claims) (close_act ∷ []))
