-- The round of a trial, found in its history.
use Rattle.std.proofs.Common.{◌≡◌, ◌∙◌, List, length, get_or, sym, ap, subst}
use Rattle.setoff_model.specs.CutView.{CutView, OutcomeView, WellFormed, obligations}
use Rattle.setoff_model.specs.Setoff.{Proves}
use Rattle.claim_history.specs.declared.entry.Entry.{Entry}
use Rattle.trial_round.specs.Round.{EndsWith, HasRound}
use Rattle.trial_round.proofs.Ends.{one_end}

module _ (cut : CutView) (history : List Entry) (rounds : List CutView) (round : HasRound cut history rounds) where
  pub one_round : length rounds ≡ 1
  one_round = ap length round.cuts_are

  -- the cut that is told is the cut
  pub is_cut : (told : CutView) → told ≡ get_or rounds 0 told → told ≡ cut
  is_cut told is = is ∙ ap (λ (l : List CutView). get_or l 0 told) round.cuts_are

  pub told_formed : (told : CutView) → told ≡ get_or rounds 0 told → WellFormed told
  told_formed told is = subst WellFormed (sym (is_cut told is)) round.formed

  pub told_proved : (told : CutView) (outcome : OutcomeView) → told ≡ get_or rounds 0 told → EndsWith history outcome → Proves (obligations told) outcome.discharges outcome.prices
  told_proved told outcome is ends =
      subst (λ (c : CutView). Proves (obligations c) outcome.discharges outcome.prices) (sym (is_cut told is))
      (subst (λ (o : OutcomeView). Proves (obligations cut) o.discharges o.prices) (one_end history round.outcome outcome round.ends ends) round.proved)
