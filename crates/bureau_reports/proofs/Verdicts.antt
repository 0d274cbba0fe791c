-- The statuses of verdicts, and of reports on an input.
use Rattle.std.specs.Prelude.{Option}
use Rattle.std.proofs.Common.{◌≡◌, inl, inr, ℕ, List, [], ◌∷◌, refl, subst, sym}
use Rattle.setoff_model.specs.CutView.{CutView, OutcomeView, obligations}
use Rattle.setoff_model.specs.Setoff.{Proves}
use Rattle.setoff_checker.specs.declared.verdict.Verdict.{Verdict}
use Rattle.setoff_checker.specs.declared.verdict.Verdict.TheVariants as verdict
use Rattle.setoff_checker.specs.Verdicts.{FoundGreatest, IsVerdict}
use Rattle.setoff_checker.proofs.Found.{found_exactly}
use Rattle.weighed_round.specs.printed_text.specs.declared.exit_status.ExitStatus.{ExitStatus}
use Rattle.weighed_round.specs.printed_text.specs.declared.exit_status.ExitStatus.TheVariants as statuses
use Rattle.weighed_round.specs.printed_text.specs.Statuses.{IsOneOf}
use Rattle.weighed_round.specs.printed_text.specs.Texts.{verdict_status}
use Rattle.weighed_round.specs.printed_text.specs.Writing.{Wrote}
use Rattle.weighed_round.specs.printed_text.proofs.Statuses.{in_front}
use Rattle.command_words.specs.declared.input_report.InputReport.{InputReport}
use Rattle.command_words.specs.declared.input_report.InputReport.TheVariants as inputs
use Rattle.bureau_reports.specs.Inputs.{IsInputDue, IsTold, input_statuses, no_report_memory, out_of_form, reported}
use Rattle.bureau_reports.proofs.Written.{wrote_among}

not_greatest : (v : Verdict) → (FoundGreatest v → ⊥) → verdict_status v ≡ statuses.No
not_greatest (verdict.Greatest total) other = absurd (other tt)
not_greatest verdict.Lengths other = refl
not_greatest (verdict.OverAmount c) other = refl
not_greatest (verdict.OutsideWindow f) other = refl
not_greatest (verdict.PriceRange f) other = refl
not_greatest (verdict.NotProved total limit) other = refl

pub found_done : (v : Verdict) → FoundGreatest v → verdict_status v ≡ statuses.Done
found_done (verdict.Greatest total) found = refl
found_done verdict.Lengths found = absurd found
found_done (verdict.OverAmount c) found = absurd found
found_done (verdict.OutsideWindow f) found = absurd found
found_done (verdict.PriceRange f) found = absurd found
found_done (verdict.NotProved total limit) found = absurd found

-- the status is one of these
pub verdict_among : (v : Verdict) → IsOneOf (statuses.Done ∷ statuses.No ∷ []) (verdict_status v)
verdict_among (verdict.Greatest total) = inl refl
verdict_among verdict.Lengths = inr (inl refl)
verdict_among (verdict.OverAmount c) = inr (inl refl)
verdict_among (verdict.OutsideWindow f) = inr (inl refl)
verdict_among (verdict.PriceRange f) = inr (inl refl)
verdict_among (verdict.NotProved total limit) = inr (inl refl)

-- it is `No` where the prices do not prove the discharges
pub unproved_no : (cut : CutView) (outcome : OutcomeView) (v : Verdict) → IsVerdict cut outcome v → (Proves (obligations cut) outcome.discharges outcome.prices → ⊥) → verdict_status v ≡ statuses.No
unproved_no cut outcome v is none = not_greatest v (λ greatest. none ((found_exactly (obligations cut) outcome.discharges outcome.prices v is).0 greatest))

-- and 0 where they do
pub proved_done : (cut : CutView) (outcome : OutcomeView) (v : Verdict) → IsVerdict cut outcome v → Proves (obligations cut) outcome.discharges outcome.prices → verdict_status v ≡ statuses.Done
proved_done cut outcome v is proves = found_done v ((found_exactly (obligations cut) outcome.discharges outcome.prices v is).1 proves)

-- ---- reports on an input

-- of one that is in form they tell `Done` or `No`
pub told_among : (report : InputReport) (input : List ℕ) (status : ExitStatus) (text : List ℕ) → IsTold report input status text → IsOneOf (statuses.Done ∷ statuses.No ∷ []) status
told_among inputs.Check input status text t = subst (IsOneOf (statuses.Done ∷ statuses.No ∷ [])) (sym t.status_is) (verdict_among t.verdict)
told_among inputs.Explain input status text (inl h) = inr (inl h.0)
told_among inputs.Explain input status text (inr h) = inl h.0
told_among (inputs.Import lane) input status text t = inl t.2

pub input_one : (report : InputReport) (input : List ℕ) (status : ExitStatus) (text : List ℕ) → IsInputDue report input status text → IsOneOf (statuses.Done ∷ statuses.No ∷ statuses.Form ∷ statuses.Memory ∷ []) status
input_one report input status text no_report_memory = inr (inr (inr (inl refl)))
input_one report input status text (out_of_form t fault none) = inr (inr (inl refl))
input_one report input status text (reported s t told) = in_front (statuses.Done ∷ statuses.No ∷ []) (statuses.Form ∷ statuses.Memory ∷ []) s (told_among report input s t told)

pub input_among : (report : InputReport) (input : List ℕ) (x y : Option (List ℕ)) (status : ExitStatus) → Wrote (IsInputDue report input) x y status → IsOneOf input_statuses status
input_among report input x y status w = wrote_among (IsInputDue report input) (statuses.Done ∷ statuses.No ∷ statuses.Form ∷ statuses.Memory ∷ []) x y status (input_one report input) w
