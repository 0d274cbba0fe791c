-- The input of a trial: firms are registered, claims among them are drawn, filed and confirmed, and a round is closed, all in the pool
-- MAIN.
use Rattle.std.specs.Prelude.{ℕ, zero, suc, ◌+◌, ◌-◌, ◌*◌, ◌%◌, nat_le, List, [], ◌∷◌, ◌++◌, map, codes, decimal, None, if◌then◌else◌}
use Rattle.setoff_model.specs.declared.name.Key.{Key}
use Rattle.setoff_model.specs.declared.kind.Kind.TheVariants.{Plain}
use Rattle.claim_history.specs.declared.act.Act.{Act}
use Rattle.claim_history.specs.declared.act.Act.TheVariants as act
use Rattle.claim_history.specs.declared.call.Call.{Call}
use Rattle.claim_history.specs.Pools.{main_pool}
use Rattle.request_text.specs.Grammar.{Asked, batch_text}
use Rattle.trial_round.specs.declared.days.TheConstants.{DUE_DAY, HORIZON_DAY}
use Rattle.trial_round.specs.Draws.{draw}

-- ---- the claim of a number, from 1, which three draws make

-- the place of its debtor among the firms, from 0
unfoldable pub debtor_place : ℕ → ℕ → ℕ → ℕ
debtor_place firms seed claim = draw seed (3 * (claim - 1) + 1) % firms

-- the place among all firms of a place among the others than one
abbrev pub other_than : ℕ → ℕ → ℕ
other_than debtor place = if nat_le debtor place then place + 1 else place

-- the place of its creditor, which is another
unfoldable pub creditor_place : ℕ → ℕ → ℕ → ℕ
creditor_place firms seed claim = other_than (debtor_place firms seed claim) (draw seed (3 * (claim - 1) + 2) % (firms - 1))

-- its cents
unfoldable pub claim_cents : ℕ → ℕ → ℕ
claim_cents seed claim = draw seed (3 * (claim - 1) + 3) + 1

-- ---- the acts

-- the name of a firm by its number, from 1, and that of an invoice
abbrev pub firm_name : ℕ → List ℕ
firm_name number = codes "F-" ++ decimal number

abbrev pub invoice_name : ℕ → List ℕ
invoice_name number = codes "I-" ++ decimal number

-- the key of a claim
abbrev pub claim_key : ℕ → ℕ → ℕ → Key
claim_key firms seed claim = record { creditor = firm_name (creditor_place firms seed claim + 1); invoice = invoice_name claim }

-- the first firms are registered
unfoldable pub firm_acts : ℕ → List Act
firm_acts zero = []
firm_acts (suc number) = firm_acts number ++ act.Firm (firm_name (suc number)) ∷ []

-- a claim is filed, and all of it is confirmed
unfoldable pub filed_and_confirmed : ℕ → ℕ → ℕ → List Act
filed_and_confirmed firms seed claim =
    act.File (claim_key firms seed claim) (firm_name (debtor_place firms seed claim + 1)) (claim_cents seed claim) DUE_DAY
    ∷ act.Confirm (claim_key firms seed claim) (firm_name (debtor_place firms seed claim + 1)) None
    ∷ []

-- so are the first claims
unfoldable pub claim_acts : ℕ → ℕ → ℕ → List Act
claim_acts firms seed zero = []
claim_acts firms seed (suc claim) = claim_acts firms seed claim ++ filed_and_confirmed firms seed (suc claim)

-- all acts before the last
unfoldable pub acts_before_close : ℕ → ℕ → ℕ → List Act
acts_before_close firms claims seed = firm_acts firms ++ claim_acts firms seed claims

-- the last act
abbrev pub close_act : Act
close_act = act.Close Plain HORIZON_DAY

-- all acts, in the order of the lines
unfoldable pub trial_acts : ℕ → ℕ → ℕ → List Act
trial_acts firms claims seed = acts_before_close firms claims seed ++ close_act ∷ []

-- ---- the text

-- an act that lane 1 is asked for in the pool MAIN
abbrev pub by_lane_one : Act → Asked
by_lane_one a = record { lane = 1; pool = main_pool; act = a }

-- the same as a call
abbrev pub call_by_one : Act → Call
call_by_one a = record { caller = 1; pool = main_pool; act = a }

-- the lines of these acts
unfoldable pub text_of_acts : List Act → List ℕ
text_of_acts acts = batch_text (map by_lane_one acts)

-- the input
abbrev pub trial_input : ℕ → ℕ → ℕ → List ℕ
trial_input firms claims seed = text_of_acts (trial_acts firms claims seed)
