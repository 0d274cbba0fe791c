-- The reading of an input.
use Rattle.std.specs.Prelude.{Option, Some, None}
use Rattle.std.specs.Io.KnownBytes.{Consumes, IsAtEnd}
use Rattle.std.proofs.Common.{◌≡◌, ◌∙◌, ℕ, ◌+◌, ◌≤◌, List, ◌++◌, length, ap, arith, refl, sym}
use Rattle.std.proofs.lemmas.List.{append-nil, length-append}
use Rattle.bureau_edge.specs.declared.whole.ReadEnd.{ReadEnd}
use Rattle.bureau_edge.specs.declared.whole.ReadEnd.TheVariants as ends
use Rattle.bureau_edge.specs.Streams.{EndsReading, TakesAll}
use Rattle.setoff_model.specs.declared.limits.TheConstants.{MOST_INPUT_BYTES}
use Rattle.printed_text.specs.declared.exit_status.ExitStatus.{ExitStatus}
use Rattle.printed_text.specs.declared.exit_status.ExitStatus.TheVariants as statuses
use Rattle.printed_text.specs.Texts.{memory_text, read_text, too_long_text}
use Rattle.printed_text.specs.Writing.{Wrote}
use Rattle.journal_texts.specs.Calls.{IsReadDue, IsToldUnread, IsTooLong, input_read, no_input_memory, read_fault, too_long}
use Rattle.journal_texts.proofs.Written.{no_other, wrote_for, wrote_line}

-- ---- what was taken of an input that is told

-- at its end all was taken
pub all_taken : (input taken : List ℕ) (left_new : Option (List ℕ)) → Consumes (Some input) left_new taken → IsAtEnd left_new → taken ≡ input
all_taken input taken None h e = absurd h
all_taken input taken (Some rest) h e = sym (h ∙ ap (λ (t : List ℕ). taken ++ t) e ∙ append-nil taken)

-- some rest follows
pub followed : (input taken : List ℕ) (left_new : Option (List ℕ)) → Consumes (Some input) left_new taken → (rest : List ℕ) × (input ≡ taken ++ rest)
followed input taken None h = absurd h
followed input taken (Some rest) h = (rest, h)

-- it is no shorter
pub no_shorter : (input taken : List ℕ) (left_new : Option (List ℕ)) → Consumes (Some input) left_new taken → length taken ≤ length input
no_shorter input taken left_new h = let f = followed input taken left_new h in omega (arith, ap (λ (t : List ℕ). length t) f.1, length-append taken f.0)

-- more than the limit, so it is too long
pub taken_long : (input taken : List ℕ) (left_new : Option (List ℕ)) → Consumes (Some input) left_new taken → length taken ≡ MOST_INPUT_BYTES + 1 → IsTooLong input
taken_long input taken left_new h many = omega (arith, no_shorter input taken left_new h, many)

-- ---- what was due, and was written

module _ (P : List ℕ → ExitStatus → List ℕ → Type 0) (Untouched : Type 0) (old new x y : Option (List ℕ)) where
  -- an input was not read, and why was told
  pub wrote_unread : (end : ReadEnd) (status : ExitStatus) → Untouched → EndsReading MOST_INPUT_BYTES old new end → IsToldUnread end x y status → Wrote (IsReadDue P Untouched old new) x y status
  wrote_unread ends.Memory status same ended told = wrote_line (IsReadDue P Untouched old new) x y statuses.Memory memory_text status (no_input_memory same) told
  wrote_unread ends.Failed status same ended told = wrote_line (IsReadDue P Untouched old new) x y statuses.Source read_text status (read_fault same) told
  wrote_unread ends.TooLong status same ended told = wrote_line (IsReadDue P Untouched old new) x y statuses.Limit too_long_text status (too_long same ended.0 ended.1 ended.2) told

  -- it was read, and what it comes to was written
  pub wrote_read : (input : List ℕ) (status : ExitStatus) → TakesAll MOST_INPUT_BYTES old new input → Wrote (P input) x y status → Wrote (IsReadDue P Untouched old new) x y status
  wrote_read input status taken w = wrote_for (P input) (IsReadDue P Untouched old new) x y status (input_read input taken) w

-- the source is told of only where it failed
pub source_failed : (x y : Option (List ℕ)) (end : ReadEnd) (status : ExitStatus) → IsToldUnread end x y status → status ≡ statuses.Source → end ≡ ends.Failed
source_failed x y ends.Memory status told source = absurd (no_other statuses.Source x y statuses.Memory memory_text status (λ e. cc) (λ e. cc) told source)
source_failed x y ends.Failed status told source = refl
source_failed x y ends.TooLong status told source = absurd (no_other statuses.Source x y statuses.Limit too_long_text status (λ e. cc) (λ e. cc) told source)
