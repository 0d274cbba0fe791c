-- What was due, from what a step wrote.
use Rattle.std.specs.Prelude.{Option}
use Rattle.std.proofs.Common.{◌≡◌, ◌⊎◌, ⊎_elim, inl, inr, ℕ, List, [], ◌∷◌, ◌++◌, refl, sym, subst}
use Rattle.std.specs.Io.KnownBytes.{Appends}
use Rattle.bureau_edge.proofs.Known.{Appends-then, AppendsPart-after}
use Rattle.printed_text.specs.declared.exit_status.ExitStatus.{ExitStatus}
use Rattle.printed_text.specs.declared.exit_status.ExitStatus.TheVariants as statuses
use Rattle.printed_text.specs.Statuses.{IsOneOf}
use Rattle.printed_text.specs.Writing.{IsWritten, Wrote, whole, broken}
use Rattle.printed_text.proofs.Statuses.{behind, in_front}

-- what was due for one reason was due for another
pub wrote_for : (P Q : ExitStatus → List ℕ → Type 0) (x y : Option (List ℕ)) (status : ExitStatus) → ((due : ExitStatus) (text : List ℕ) → P due text → Q due text) → Wrote P x y status → Wrote Q x y status
wrote_for P Q x y status f w = record { due = w.due; text = w.text; is_due = f w.due w.text w.is_due; is_written = w.is_written }

pub wrote_line : (P : ExitStatus → List ℕ → Type 0) (x y : Option (List ℕ)) (due : ExitStatus) (text : List ℕ) (status : ExitStatus) → P due text → IsWritten x y due text status → Wrote P x y status
wrote_line P x y due text status h w = record { due = due; text = text; is_due = h; is_written = w }

-- the same where the text that was told is the due one
pub wrote_text : (P : ExitStatus → List ℕ → Type 0) (x y : Option (List ℕ)) (due : ExitStatus) (text said : List ℕ) (status : ExitStatus) → P due text → said ≡ text → IsWritten x y due said status → Wrote P x y status
wrote_text P x y due text said status h e w = wrote_line P x y due text status h (subst (λ (t : List ℕ). IsWritten x y due t status) e w)

-- a text was written after another one
pub written_after : (x y z : Option (List ℕ)) (first text : List ℕ) (due status : ExitStatus) → Appends x y first → IsWritten y z due text status → IsWritten x z due (first ++ text) status
written_after x y z first text due status before (whole taken) = whole (Appends-then x y z first text before taken)
written_after x y z first text due status before (broken part) = broken (AppendsPart-after x y z first text before part)

-- the status is the one that was due, or tells of the sink
pub told_status : (x y : Option (List ℕ)) (due : ExitStatus) (text : List ℕ) (status : ExitStatus) → IsWritten x y due text status → (status ≡ due) ⊎ (status ≡ statuses.Sink)
told_status x y due text status (whole taken) = inl refl
told_status x y due text status (broken part) = inr refl

-- the same where the status that was told is the due one, and the text, too
pub written_as : (x y : Option (List ℕ)) (due due' : ExitStatus) (text said : List ℕ) (status : ExitStatus) → due' ≡ due → said ≡ text → IsWritten x y due' said status → IsWritten x y due text status
written_as x y due due' text said status same told w = subst (λ (t : List ℕ). IsWritten x y due t status) told (subst (λ (n : ExitStatus). IsWritten x y n said status) same w)

-- what was told has one of the statuses that are due, or that of a sink that failed
pub wrote_among : (P : ExitStatus → List ℕ → Type 0) (dues : List ExitStatus) (x y : Option (List ℕ)) (status : ExitStatus) → ((due : ExitStatus) (text : List ℕ) → P due text → IsOneOf dues due) → Wrote P x y status → IsOneOf (statuses.Sink ∷ dues) status
wrote_among P dues x y status each w = ⊎_elim (λ is. inr (subst (IsOneOf dues) (sym is) (each w.due w.text w.is_due))) (λ sink. inl sink) (told_status x y w.due w.text status w.is_written)

-- a status that was told is no other than the due one and that of the sink
pub no_other : (n : ExitStatus) (x y : Option (List ℕ)) (due : ExitStatus) (text : List ℕ) (status : ExitStatus) → (due ≡ n → ⊥) → (statuses.Sink ≡ n → ⊥) → IsWritten x y due text status → status ≡ n → ⊥
no_other n x y due text status one two (whole taken) is = one is
no_other n x y due text status one two (broken part) is = two is

-- so it is one of those that may be due, or tells of the sink
pub told_one : (dues : List ExitStatus) (due status : ExitStatus) → IsOneOf dues due → (status ≡ due) ⊎ (status ≡ statuses.Sink) → IsOneOf (dues ++ statuses.Sink ∷ []) status
told_one dues due status one (inl is) = in_front dues (statuses.Sink ∷ []) status (subst (IsOneOf dues) (sym is) one)
told_one dues due status one (inr sink) = behind dues (statuses.Sink ∷ []) status (inl sink)
