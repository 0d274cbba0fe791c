-- What a trial tells of its round.
use Rattle.std.specs.Prelude.{◌≡◌, ◌≤◌, ℕ, List, ◌++◌, length, map, codes, decimal}
use Rattle.setoff_model.specs.declared.limits.TheConstants.{MOST_CLAIMS, MOST_FIRMS}
use Rattle.setoff_model.specs.declared.kind.Kind.TheVariants.{Plain}
use Rattle.setoff_model.specs.CutView.{CutView, obligations}
use Rattle.setoff_model.specs.Setoff.{IsGreatest, total_of}
use Rattle.setoff_model.specs.Texts.{cents_text}
use Rattle.claim_history.specs.Cut.{cut_of}
use Rattle.claim_history.specs.Pools.{ledger_in, main_pool, replay_of}
use Rattle.request_text.specs.declared.request.Request.{Request}
use Rattle.request_text.specs.Grammar.{numbered}
use Rattle.trial_round.specs.declared.days.TheConstants.{HORIZON_DAY}
use Rattle.trial_round.specs.Input.{acts_before_close, by_lane_one, call_by_one, trial_acts}

-- there are 2 to 16,384 firms and 1 to 262,144 claims
pub record IsTrialSize (firms claims : ℕ) : Type 0 where
  pub some_firms : 2 ≤ firms
  pub few_firms : firms ≤ MOST_FIRMS
  pub some_claims : 1 ≤ claims
  pub few_claims : claims ≤ MOST_CLAIMS

-- the requests of the input, one on each line
unfoldable pub trial_batch : ℕ → ℕ → ℕ → List Request
trial_batch firms claims seed = numbered 1 (map by_lane_one (trial_acts firms claims seed))

-- the cut of the round: that of the pool MAIN in the one history of the acts before the last
unfoldable pub trial_cut : ℕ → ℕ → ℕ → CutView
trial_cut firms claims seed = cut_of 1 (ledger_in (replay_of (map call_by_one (acts_before_close firms claims seed))) main_pool) Plain
    HORIZON_DAY

-- the greatest total that a lawful set-off of the cut has
pub record IsGreatestTotal (cut : CutView) (total : ℕ) : Type 0 where
  pub discharges : List ℕ
  pub greatest : IsGreatest (obligations cut) discharges
  pub total_is : total ≡ total_of discharges

-- the line that tells of a cut, by the numbers of its claims and parties, and of a total in cents
unfoldable pub trial_line : ℕ → ℕ → ℕ → ℕ → ℕ → ℕ → List ℕ
trial_line firms claims seed cut_claims cut_parties total =
    codes "trial firms " ++ decimal firms ++ codes " claims " ++ decimal claims ++ codes " seed " ++ decimal seed
    ++ codes " cut " ++ decimal cut_claims ++ codes " parties " ++ decimal cut_parties
    ++ codes " total " ++ cents_text total ++ codes " yes\n"

-- what a round came to: its claims, its parties, and its total, which is the greatest
pub record AreSums (cut : CutView) (claims parties total : ℕ) : Type 0 where
  pub claims_are : claims ≡ length cut.claims
  pub parties_are : parties ≡ length cut.parties
  pub greatest : IsGreatestTotal cut total

-- the text is the line of the trial's cut with its greatest total
pub record IsTrialText (firms claims seed : ℕ) (text : List ℕ) : Type 0 where
  pub total : ℕ
  pub greatest : IsGreatestTotal (trial_cut firms claims seed) total
  pub line : text ≡ trial_line firms claims seed (length (trial_cut firms claims seed).claims)
      (length (trial_cut firms claims seed).parties) total
