-- One of some statuses, and the number of one.
use Rattle.std.specs.Prelude.{◌==◌, slice_index_or}
use Rattle.std.specs.List.{list_any}
use Rattle.std.proofs.Common.{◌≡◌, ◌≤◌, inl, inr, ℕ, Bool, true, false, nat_lt, List, [], ◌∷◌, ◌++◌, refl, sym, ap, ◌∙◌, subst, true≢false, arith}
use Rattle.std.proofs.lemmas.Bool.{eq-eqb, ltb-true, ltb-false, or_parts}
use Rattle.served_lines.specs.fault_count.specs.Counts.{HasRisen}
use Rattle.printed_text.specs.declared.exit_status.ExitStatus.{ExitStatus}
use Rattle.printed_text.specs.declared.exit_status.ExitStatus.TheVariants as statuses
use Rattle.printed_text.specs.Statuses.{IsOneOf, TellsSinkFault, number_of}

pub in_front : (dues rest : List ExitStatus) (status : ExitStatus) → IsOneOf dues status → IsOneOf (dues ++ rest) status
in_front [] rest status h = absurd h
in_front (due ∷ dues) rest status (inl is) = inl is
in_front (due ∷ dues) rest status (inr h) = inr (in_front dues rest status h)

pub behind : (dues rest : List ExitStatus) (status : ExitStatus) → IsOneOf rest status → IsOneOf (dues ++ rest) status
behind [] rest status h = h
behind (due ∷ dues) rest status h = inr (behind dues rest status h)

-- none of the others is this one
no_one_of : (n : ExitStatus) (dues : List ExitStatus) → list_any (λ d. number_of d == number_of n) dues ≡ false → IsOneOf dues n → ⊥
no_one_of n [] none h = h
no_one_of n (due ∷ dues) none (inl is) =
    true≢false (sym (eq-eqb (number_of due) (number_of n) (ap number_of (sym is))) ∙ (or_parts (number_of due == number_of n) (list_any (λ d. number_of d == number_of n) dues) none).0)
no_one_of n (due ∷ dues) none (inr h) = no_one_of n dues (or_parts (number_of due == number_of n) (list_any (λ d. number_of d == number_of n) dues) none).1 h

pub other_than : (n : ExitStatus) (dues : List ExitStatus) (status : ExitStatus) → list_any (λ d. number_of d == number_of n) dues ≡ false → status ≡ n → IsOneOf dues status → ⊥
other_than n dues status none is h = no_one_of n dues none (subst (IsOneOf dues) is h)

-- ---- numbers

abbrev status_of : ℕ → ExitStatus
status_of number =
    slice_index_or (statuses.Done ∷ statuses.No ∷ statuses.Words ∷ statuses.Source ∷ statuses.Sink ∷ statuses.Disk ∷ statuses.Form ∷ statuses.Limit ∷ statuses.Unsound ∷ statuses.Memory ∷ []) number statuses.Done

numbered : (status : ExitStatus) → status_of (number_of status) ≡ status
numbered statuses.Done = refl
numbered statuses.No = refl
numbered statuses.Words = refl
numbered statuses.Source = refl
numbered statuses.Sink = refl
numbered statuses.Disk = refl
numbered statuses.Form = refl
numbered statuses.Limit = refl
numbered statuses.Unsound = refl
numbered statuses.Memory = refl

-- no two have one number
pub one_number : (a b : ExitStatus) → number_of a ≡ number_of b → a ≡ b
one_number a b same = sym (numbered a) ∙ ap status_of same ∙ numbered b

-- ---- the sink

-- it failed
pub sink_told : (before now : ℕ) → HasRisen before now → TellsSinkFault before now statuses.Sink
sink_told before now rose = record { risen = λ _. rose; told = λ _. refl }

-- it did not
pub none_told : (before now : ℕ) (status : ExitStatus) → now ≡ before → (status ≡ statuses.Sink → ⊥) → TellsSinkFault before now status
none_told before now status kept other = record { risen = λ sink. absurd (other sink); told = λ rose. absurd (omega arith) }

-- behind a step that kept the count
pub told_behind : (low before now : ℕ) (status : ExitStatus) → before ≡ low → TellsSinkFault before now status → TellsSinkFault low now status
told_behind low before now status kept = subst (λ (n : ℕ). TellsSinkFault n now status) kept

-- a step that told of no failed sink kept the count
pub kept_untold : (before now : ℕ) (status : ExitStatus) → before ≤ now → (status ≡ statuses.Sink → ⊥) → TellsSinkFault before now status → now ≡ before
kept_untold before now status later other tells = kept_or (nat_lt before now) refl where
  kept_or : (b : Bool) → nat_lt before now ≡ b → now ≡ before
  kept_or true is = absurd (other (tells.told (ltb-true before now is)))
  kept_or false is = omega (arith, ltb-false before now is)
