-- An input that a source tells, and the bytes that were taken of it.
use Rattle.std.specs.Prelude.{Option, Some}
use Rattle.std.proofs.Common.{◌≡◌, ℕ, ◌+◌, ◌-◌, ◌<◌, ◌≤◌, List, [], ◌∷◌, ◌++◌, length, take, inl, inr, sym, ◌∙◌, ap, ap₂, subst, arith}
use Rattle.std.specs.Io.KnownBytes.{Consumes}
use Rattle.std.proofs.Math.Seq.{take-append-add, take-append_seam}
use Rattle.setoff_model.specs.declared.limits.TheConstants.{MOST_INPUT_BYTES}
use Rattle.bureau_reports.specs.journal_texts.proofs.Inputs.{all_taken, followed}
use Rattle.request_text.specs.declared.error.LineCause.{LineCause}
use Rattle.request_text.specs.declared.request.Request.{Request}
use Rattle.request_text.specs.Causes.{IsBadLine}
use Rattle.request_text.specs.Grammar.{AreBatches, IsFirstBadLine, IsNoRequestText}
use Rattle.request_text.proofs.Causes.{asks_nothing}
use Rattle.live_runs.specs.input_front.specs.Front.{whole_lines}
use Rattle.live_runs.specs.live_reading.specs.Fronts.{IsBadLineOf}

-- it is the first of it
pub first_taken : (input taken : List ℕ) (left_new : Option (List ℕ)) (many : ℕ) → Consumes (Some input) left_new taken → length taken ≡ many → taken ≡ take many input
first_taken input taken left_new many h is =
    let f = followed input taken left_new h in
    sym (take-append_seam taken f.0) ∙ ap₂ (λ (n : ℕ) (t : List ℕ). take n t) is (sym f.1)

-- ---- a bad line

none_with : (number : ℕ) (before : List (List ℕ)) (line : List ℕ) (after : List (List ℕ)) (cause : LineCause) (all : List (List Request)) → IsBadLine line cause → AreBatches number (before ++ line ∷ after) all → ⊥
none_with number before line after cause [] bad h = h
none_with number [] line after cause ([] ∷ batches) bad h = bad.no_fence h.0
none_with number [] line after cause ((request ∷ requests) ∷ batches) bad h = asks_nothing line cause bad.why request.lane request.pool request.act h.1
none_with number (b ∷ before) line after cause ([] ∷ batches) bad h = none_with (number + 1) before line after cause batches bad h.1
none_with number (b ∷ before) line after cause ((request ∷ requests) ∷ batches) bad h = none_with (number + 1) before line after cause (requests ∷ batches) bad h.2

no_text : (input : List ℕ) (number : ℕ) (cause : LineCause) → IsFirstBadLine input number cause → IsNoRequestText input
no_text input number cause b = λ all h. none_with 1 b.before b.line b.after cause all b.bad (subst (λ (ls : List (List ℕ)). AreBatches 1 ls all) b.cut h)

-- an input with a bad line is in the grammar of no batches
pub bad_input : (input taken : List ℕ) (left_new : Option (List ℕ)) (number : ℕ) (cause : LineCause) → Consumes (Some input) left_new taken → IsBadLineOf left_new taken number cause → IsNoRequestText input
bad_input input taken left_new number cause h (first, inl whole) =
    no_text input number cause (subst (λ (bytes : List ℕ). IsFirstBadLine bytes number cause) (all_taken input taken left_new h whole.0) first)
bad_input input taken left_new number cause h (first, inr stays) =
    let f = followed input taken left_new h in
    no_text input number cause (subst (λ (bytes : List ℕ). IsFirstBadLine bytes number cause) (sym f.1) (stays.1 f.0).first)

-- whose first whole lines are not, either, where it goes on behind what was taken
pub bad_start : (input taken : List ℕ) (left_new : Option (List ℕ)) (number : ℕ) (cause : LineCause) → MOST_INPUT_BYTES < length input → Consumes (Some input) left_new taken → IsBadLineOf left_new taken number cause
    → (batches : List (List Request)) → AreBatches 1 (whole_lines (take (MOST_INPUT_BYTES + 1) input)) batches → ⊥
bad_start input taken left_new number cause many h (first, inl whole) batches spelled =
    absurd (omega (arith, many, subst (λ (bytes : List ℕ). length bytes ≤ MOST_INPUT_BYTES) (all_taken input taken left_new h whole.0) whole.1))
bad_start input taken left_new number cause many h (first, inr stays) batches spelled =
    let f = followed input taken left_new h in
    let n : ℕ = MOST_INPUT_BYTES + 1 - length taken in
    let sum : MOST_INPUT_BYTES + 1 ≡ length taken + n = omega (arith, stays.0) in
    let start : take (MOST_INPUT_BYTES + 1) input ≡ taken ++ take n f.0 = ap₂ (λ (k : ℕ) (t : List ℕ). take k t) sum f.1 ∙ take-append-add taken f.0 n in
    let b = stays.1 (take n f.0) in
    none_with 1 b.first.before b.first.line b.later cause batches b.first.bad (subst (λ (ls : List (List ℕ)). AreBatches 1 ls batches) (ap whole_lines start ∙ b.whole) spelled)
