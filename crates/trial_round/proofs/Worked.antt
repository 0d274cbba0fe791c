-- The trial of two firms and two claims from the seed 1, worked out: F-1 owes F-2 330.47, F-2 owes F-1 242.17, and so 242.17 of each
-- is set off.
use Rattle.std.proofs.Common.{◌≡◌, ◌∙◌, ℕ, List, [], ◌∷◌, ◌++◌, refl, ap, ap₂, arith, decimal}
use Rattle.std.specs.Prelude.{codes, map, None, ℤ, pos}
use Rattle.std.proofs.lemmas.Fmt.{decimal_digit}
use Rattle.setoff_model.specs.declared.kind.Kind.TheVariants.{Plain}
use Rattle.setoff_model.specs.CutView.{CutView, obligations}
use Rattle.setoff_model.proofs.Circulation.{weak_duality}
use Rattle.setoff_model.proofs.Deciding.{proof_test_law}
use Rattle.claim_history.specs.declared.act.Act.{Act}
use Rattle.claim_history.specs.declared.act.Act.TheVariants as act
use Rattle.claim_history.specs.Cut.{cut_of}
use Rattle.claim_history.specs.Pools.{ledger_in, main_pool, replay_of}
use Rattle.trial_round.specs.declared.days.TheConstants.{HORIZON_DAY}
use Rattle.trial_round.specs.Draws.{draw, next_state, state_after}
use Rattle.trial_round.specs.Input.{acts_before_close, call_by_one, claim_acts, claim_cents, creditor_place, debtor_place, filed_and_confirmed, firm_acts}
use Rattle.trial_round.specs.Trial.{IsGreatestTotal, trial_cut}

states : map (state_after 1) (1 ∷ 2 ∷ 3 ∷ 4 ∷ 5 ∷ 6 ∷ []) ≡ 1015568748 ∷ 1586005467 ∷ 2165703038 ∷ 3027450565 ∷ 217083232 ∷ 1587069247 ∷ []
unfolding state_after next_state
states = refl

draws : map (draw 1) (1 ∷ 2 ∷ 3 ∷ 4 ∷ 5 ∷ 6 ∷ []) ≡ 15496 ∷ 24200 ∷ 33046 ∷ 46195 ∷ 3312 ∷ 24216 ∷ []
unfolding draw state_after next_state
draws = refl

-- the acts before the Close, with the digits of 1 and of 2
abbrev worked_acts : List ℕ → List ℕ → List Act
worked_acts one two =
    act.Firm (codes "F-" ++ one)
    ∷ act.Firm (codes "F-" ++ two)
    ∷ act.File (record { creditor = codes "F-" ++ two; invoice = codes "I-" ++ one }) (codes "F-" ++ one) 33047 20089
    ∷ act.Confirm (record { creditor = codes "F-" ++ two; invoice = codes "I-" ++ one }) (codes "F-" ++ one) None
    ∷ act.File (record { creditor = codes "F-" ++ one; invoice = codes "I-" ++ two }) (codes "F-" ++ two) 24217 20089
    ∷ act.Confirm (record { creditor = codes "F-" ++ one; invoice = codes "I-" ++ two }) (codes "F-" ++ two) None
    ∷ []

one_digit : decimal 1 ≡ codes "1"
one_digit = decimal_digit 1 (omega arith)

two_digit : decimal 2 ≡ codes "2"
two_digit = decimal_digit 2 (omega arith)

drawn_acts : acts_before_close 2 2 1 ≡ worked_acts (decimal 1) (decimal 2)
unfolding acts_before_close firm_acts claim_acts filed_and_confirmed debtor_place creditor_place claim_cents draw state_after next_state
drawn_acts = refl

acts : acts_before_close 2 2 1 ≡ worked_acts (codes "1") (codes "2")
acts = drawn_acts ∙ ap₂ worked_acts one_digit two_digit

abbrev worked_cut : CutView
worked_cut = record {
  round = 1;
  kind = Plain;
  parties = record { firm = codes "F-1"; spend = 0; room = 0 } ∷ record { firm = codes "F-2"; spend = 0; room = 0 } ∷ [];
  claims = record { key = record { creditor = codes "F-2"; invoice = codes "I-1" }; debtor = 0; creditor = 1; amount = 33047 }
      ∷ record { key = record { creditor = codes "F-1"; invoice = codes "I-2" }; debtor = 1; creditor = 0; amount = 24217 }
      ∷ [];
}

cut_of_acts : cut_of 1 (ledger_in (replay_of (map call_by_one (worked_acts (codes "1") (codes "2")))) main_pool) Plain HORIZON_DAY ≡ worked_cut
cut_of_acts = refl

cut : trial_cut 2 2 1 ≡ worked_cut
unfolding trial_cut
cut = ap (λ (done : List Act). cut_of 1 (ledger_in (replay_of (map call_by_one done)) main_pool) Plain HORIZON_DAY) acts ∙ cut_of_acts

-- with the prices 0 and 1
total : IsGreatestTotal worked_cut 48434
total =
    let discharges : List ℕ = 24217 ∷ 24217 ∷ [] in
    let prices : List ℤ = pos 0 ∷ pos 1 ∷ [] in
    record { discharges = discharges; greatest = weak_duality.proved_is_greatest (obligations worked_cut) discharges prices ((proof_test_law (obligations worked_cut) discharges prices).0 refl); total_is = refl }
